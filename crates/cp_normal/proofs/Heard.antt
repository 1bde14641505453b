-- The atoms that receptions carry, each once.
use Rattle.std.proofs.Common.{◌≡◌, ◌⊎◌, inl, inr, ℕ, zero, suc, ◌+◌, ◌<◌, ◌≤◌, ◌==◌, ◌&&◌, nat_lt, if◌then◌else◌, Bool, true, false, List, [], ◌∷◌, ◌++◌, length, get_or, take, drop, Some, refl, sym, ap, ◌∙◌, subst, arith, append_assoc, add-one}
use Rattle.std.proofs.Math.Seq.{drop-cons}
use Rattle.std.proofs.lemmas.List.{append-nil, drop_all}
use Rattle.cp_lists.specs.Lists.{item_at, IsIn, here}
use Rattle.cp_lists.proofs.Members.{only_item, in_append, in_append_left, in_append_right}
use Rattle.cp_lists.proofs.Fronts.{none_taken}
use Rattle.cp_model.specs.Term.{AtomTerm, Term, tag_term, atom_term, pair_term, enc_term, IsCarriedByTerm, itself_term, in_left_term, in_right_term, in_plaintext_term}
use Rattle.cp_model.specs.declared.strand.Event.{Event}
use Rattle.cp_model.specs.declared.strand.Event.TheVariants.{Send as send, Receive as recv}
use Rattle.cp_model.specs.Bundle.{node_at}
use Rattle.cp_model.specs.declared.node.Node.{Node}
use Rattle.cp_model.specs.Skeleton.{SkeletonStrand, skeleton_trace, skeleton_trace_or_none, Skeleton}
use Rattle.cp_model.specs.Given.{atoms_onto}
use Rattle.cp_model.proofs.Gathered.{onto-append, onto-takes, onto-only, atoms as gathering}
use Rattle.cp_skel.specs.Events.{LocatedEvent, is_role_strand, located_events_on, located_events_from, events_of}
use Rattle.cp_normal.specs.ReceivedAtomLists.{carried_atoms, received_atoms, heard_in, heard_before, heard_of, heard_among}
use Rattle.cp_normal.specs.NormalForms.{IsReceivedBefore}

-- ---- the loops that gather them

pub pair_step : (old new whole : List AtomTerm) (rest l r : Term) → rest ≡ pair_term l r → new ≡ atoms_onto old (carried_atoms l) → atoms_onto old (carried_atoms rest) ≡ whole → atoms_onto new (carried_atoms r) ≡ whole
pair_step old new whole rest l r e n inv =
    ap (λ xs. atoms_onto xs (carried_atoms r)) n ∙ sym (onto-append gathering old (carried_atoms l) (carried_atoms r)) ∙ sym (ap (λ t. atoms_onto old (carried_atoms t)) e) ∙ inv

-- the next event, and what is left behind it
pub heard_next : (x : Node) (os : List LocatedEvent) (i : ℕ) (o : LocatedEvent) (old new whole : List AtomTerm) → i < length os → o ≡ get_or os i o →
    new ≡ atoms_onto old (heard_of x o) → atoms_onto old (heard_among x (drop i os)) ≡ whole → atoms_onto new (heard_among x (drop (i + 1) os)) ≡ whole
heard_next x os i o old new whole l is made inv =
    let rest : List AtomTerm = heard_among x (drop (suc i) os) in
    let step : heard_among x (drop i os) ≡ heard_of x o ++ rest =
    ap (heard_among x) (drop-cons os i o l) ∙ ap (λ (y : LocatedEvent). heard_of x y ++ rest) (sym is) in
    rw add-one
    (ap (λ xs. atoms_onto xs rest) made ∙ sym (onto-append gathering old (heard_of x o) rest) ∙ ap (atoms_onto old) (sym step) ∙ inv)

pub heard_end : (x : Node) (os : List LocatedEvent) (i : ℕ) (atoms whole : List AtomTerm) → length os ≤ i → atoms_onto atoms (heard_among x (drop i os)) ≡ whole → atoms ≡ whole
heard_end x os i atoms whole l inv = sym (ap (λ (xs : List LocatedEvent). atoms_onto atoms (heard_among x xs)) (drop_all i os l)) ∙ inv

-- ---- among the events of a skeleton

heard_both : (x : Node) (xs ys : List LocatedEvent) → heard_among x (xs ++ ys) ≡ heard_among x xs ++ heard_among x ys
heard_both x [] ys = refl
heard_both x (o ∷ xs) ys = ap (λ zs. heard_of x o ++ zs) (heard_both x xs ys) ∙ sym (append_assoc (heard_of x o) (heard_among x xs) (heard_among x ys))

-- an event that is not before the node on its strand
not_heard : (x : Node) (o : LocatedEvent) → ((o.node.strand == x.strand) && nat_lt o.node.index x.index) ≡ false → heard_of x o ≡ []
not_heard x o e = ap (λ b. if b then received_atoms o.event else []) e

is_heard : (x : Node) (o : LocatedEvent) → ((o.node.strand == x.strand) && nat_lt o.node.index x.index) ≡ true → heard_of x o ≡ received_atoms o.event
is_heard x o e = ap (λ b. if b then received_atoms o.event else []) e

past_node : (a b c d : ℕ) → d ≤ c → ((a == b) && nat_lt c d) ≡ false
past_node a b c d h = grind arith

other_strand : (a b c d : ℕ) → (a ≡ b → ⊥) → ((a == b) && nat_lt c d) ≡ false
other_strand a b c d h = grind arith

before_node : (a b c d : ℕ) → a ≡ b → c < d → ((a == b) && nat_lt c d) ≡ true
before_node a b c d e h = grind arith

none_past : (x : Node) (s i : ℕ) (r : Bool) (es : List (Event Term)) → x.index ≤ i → heard_among x (located_events_on s i r es) ≡ []
none_past x s i r [] h = refl
none_past x s i r (e ∷ es) h =
    let o : LocatedEvent = record { node = node_at s i; event = e; by_role = r } in
    let first : heard_of x o ≡ [] = not_heard x o (past_node s x.strand i x.index h) in
    ap (λ xs. xs ++ heard_among x (located_events_on s (suc i) r es)) first ∙ none_past x s (suc i) r es (omega arith)

none_elsewhere : (x : Node) (s i : ℕ) (r : Bool) (es : List (Event Term)) → (s ≡ x.strand → ⊥) → heard_among x (located_events_on s i r es) ≡ []
none_elsewhere x s i r [] h = refl
none_elsewhere x s i r (e ∷ es) h =
    let o : LocatedEvent = record { node = node_at s i; event = e; by_role = r } in
    let first : heard_of x o ≡ [] = not_heard x o (other_strand s x.strand i x.index h) in
    ap (λ xs. xs ++ heard_among x (located_events_on s (suc i) r es)) first ∙ none_elsewhere x s (suc i) r es h

heard_on : (x : Node) (s i j : ℕ) (r : Bool) (es : List (Event Term)) → s ≡ x.strand → x.index ≡ i + j → heard_among x (located_events_on s i r es) ≡ heard_in (take j es)
heard_on x s i zero r [] e at = refl
heard_on x s i (suc j) r [] e at = refl
heard_on x s i zero r (v ∷ es) e at = none_past x s i r (v ∷ es) (omega (arith, at))
heard_on x s i (suc j) r (v ∷ es) e at =
    let o : LocatedEvent = record { node = node_at s i; event = v; by_role = r } in
    let first : heard_of x o ≡ received_atoms v = is_heard x o (before_node s x.strand i x.index e (omega (arith, at))) in
    ap (λ xs. xs ++ heard_among x (located_events_on s (suc i) r es)) first ∙ ap (λ xs. received_atoms v ++ xs) (heard_on x s (suc i) j r es e (omega (arith, at)))

none_later : (x : Node) (s : ℕ) (xs : List SkeletonStrand) → x.strand < s → heard_among x (located_events_from s xs) ≡ []
none_later x s [] h = refl
none_later x s (y ∷ xs) h =
    heard_both x (located_events_on s 0 (is_role_strand y) (skeleton_trace y)) (located_events_from (suc s) xs)
    ∙ ap (λ zs. zs ++ heard_among x (located_events_from (suc s) xs)) (none_elsewhere x s 0 (is_role_strand y) (skeleton_trace y) (λ e. omega (arith, h, e)))
    ∙ none_later x (suc s) xs (omega (arith, h))

heard_from : (x : Node) (s t : ℕ) (xs : List SkeletonStrand) → x.strand ≡ s + t → heard_among x (located_events_from s xs) ≡ heard_in (take x.index (skeleton_trace_or_none (item_at xs t)))
heard_from x s t [] e = sym (ap heard_in (none_taken x.index))
heard_from x s zero (y ∷ xs) e =
    heard_both x (located_events_on s 0 (is_role_strand y) (skeleton_trace y)) (located_events_from (suc s) xs)
    ∙ ap (λ zs. heard_among x (located_events_on s 0 (is_role_strand y) (skeleton_trace y)) ++ zs) (none_later x (suc s) xs (omega (arith, e)))
    ∙ append-nil (heard_among x (located_events_on s 0 (is_role_strand y) (skeleton_trace y)))
    ∙ heard_on x s 0 x.index (is_role_strand y) (skeleton_trace y) (omega (arith, e)) (omega arith)
heard_from x s (suc t) (y ∷ xs) e =
    heard_both x (located_events_on s 0 (is_role_strand y) (skeleton_trace y)) (located_events_from (suc s) xs)
    ∙ ap (λ zs. zs ++ heard_among x (located_events_from (suc s) xs)) (none_elsewhere x s 0 (is_role_strand y) (skeleton_trace y) (λ f. omega (arith, e, f)))
    ∙ heard_from x (suc s) t xs (omega (arith, e))

-- What is received among the events of a skeleton is what is received before the node.
pub heard_listed : (k : Skeleton) (x : Node) (os : List LocatedEvent) (atoms : List AtomTerm) → os ≡ events_of k → atoms ≡ atoms_onto [] (heard_among x os) → atoms ≡ heard_before k x
heard_listed k x os atoms all e = e ∙ ap (λ (ys : List LocatedEvent). atoms_onto [] (heard_among x ys)) all ∙ ap (atoms_onto []) (heard_from x 0 x.strand k.strands (omega arith))

-- ---- what is received

carried_listed : (v : AtomTerm) (w t : Term) → w ≡ atom_term v → IsCarriedByTerm w t → IsIn v (carried_atoms t)
carried_listed v w t e itself_term = subst (λ u. IsIn v (carried_atoms u)) (sym e) here
carried_listed v w t e (in_left_term {a = x} {b = y} c) = in_append_left (carried_atoms y) (carried_listed v w x e c)
carried_listed v w t e (in_right_term {a = x} {b = y} c) = in_append_right (carried_atoms x) (carried_listed v w y e c)
carried_listed v w t e (in_plaintext_term {a = x} c) = carried_listed v w x e c

listed_carried : (v : AtomTerm) (t : Term) → IsIn v (carried_atoms t) → IsCarriedByTerm (atom_term v) t
listed_carried v (tag_term bytes) h = elim h [ ]
listed_carried v (atom_term u) h = subst (λ z. IsCarriedByTerm (atom_term v) (atom_term z)) (only_item h) itself_term
listed_carried v (pair_term x y) h = elim (in_append (carried_atoms x) (carried_atoms y) h) as (λ _. IsCarriedByTerm (atom_term v) (pair_term x y)) [
  | inl i ↦ in_left_term (listed_carried v x i)
  | inr i ↦ in_right_term (listed_carried v y i)
]
listed_carried v (enc_term x k) h = in_plaintext_term (listed_carried v x h)

-- The atom is carried by a reception at a place before n.
abbrev IsHeardBelow : ℕ → List (Event Term) → AtomTerm → Type 0
IsHeardBelow n es v = (i : ℕ) × (i < n) × (t : Term) × (item_at es i ≡ Some (recv t)) × IsCarriedByTerm (atom_term v) t

first_heard : (v : AtomTerm) (e : Event Term) (n : ℕ) (es : List (Event Term)) → IsIn v (received_atoms e) → IsHeardBelow (suc n) (e ∷ es) v
first_heard v (send t) n es h = elim h [ ]
first_heard v (recv t) n es h = (0, omega arith, t, refl, listed_carried v t h)

heard_below : (v : AtomTerm) (n : ℕ) (es : List (Event Term)) → IsIn v (heard_in (take n es)) → IsHeardBelow n es v
heard_below v zero es h = elim h [ ]
heard_below v (suc n) [] h = elim h [ ]
heard_below v (suc n) (e ∷ es) h = elim (in_append (received_atoms e) (heard_in (take n es)) h) as (λ _. IsHeardBelow (suc n) (e ∷ es) v) [
  | inl i ↦ first_heard v e n es i
  | inr i ↦ let r = heard_below v n es i in (suc r.0, omega (arith, r.1), r.2, r.3, r.4)
]

below_heard : (v : AtomTerm) (n : ℕ) (es : List (Event Term)) (i : ℕ) (t : Term) → i < n → item_at es i ≡ Some (recv t) → IsIn v (carried_atoms t) → IsIn v (heard_in (take n es))
below_heard v zero es i t h at c = absurd (omega arith)
below_heard v (suc n) [] i t h at c = absurd (cc)
below_heard v (suc n) (e ∷ es) zero t h at c =
    let q : e ≡ recv t = cc in
    in_append_left (heard_in (take n es)) (subst (λ z. IsIn v (received_atoms z)) (sym q) c)
below_heard v (suc n) (e ∷ es) (suc i) t h at c = in_append_right (received_atoms e) (below_heard v n es i t (omega arith) at c)

none_before : {v : AtomTerm} {ys : List AtomTerm} → IsIn v [] ⊎ IsIn v ys → IsIn v ys
none_before (inl h) = elim h [ ]
none_before (inr h) = h

pub heard_if_listed : (k : Skeleton) (x : Node) (atoms : List AtomTerm) (v : AtomTerm) → atoms ≡ heard_before k x → IsIn v atoms → IsReceivedBefore k v x
heard_if_listed k x atoms v e h =
    let trace = skeleton_trace_or_none (item_at k.strands x.strand) in
    let i : IsIn v (heard_in (take x.index trace)) = none_before (onto-only gathering [] (heard_in (take x.index trace)) v (subst (IsIn v) e h)) in
    let r : IsHeardBelow x.index trace v = heard_below v x.index trace i in
    record { index = r.0; earlier = r.1; received = r.2; reception = r.3; carried = r.4 }

pub listed_if_heard : (k : Skeleton) (x : Node) (atoms : List AtomTerm) (v : AtomTerm) → atoms ≡ heard_before k x → IsReceivedBefore k v x → IsIn v atoms
listed_if_heard k x atoms v e h =
    let trace = skeleton_trace_or_none (item_at k.strands x.strand) in
    subst (IsIn v) (sym e) (onto-takes gathering [] (heard_in (take x.index trace)) v (below_heard v x.index trace h.index h.received h.earlier h.reception (carried_listed v (atom_term v) h.received refl h.carried)))
