-- Among all pairs of an order it can be seen whether something is between the nodes of a pair.
use Rattle.std.proofs.Common.{◌≡◌, ◌≢◌, ◌↔◌, ◌⊎◌, inl, inr, ℕ, ◌<◌, ◌≤◌, List, [], ◌∷◌, ◌++◌, Bool, true, ◌&&◌, map, refl, sym, ap, ◌∙◌, subst, arith}
use Rattle.std.specs.Prelude.{◌==◌, nat_lt, Some}
use Rattle.std.specs.List.{filter}
use Rattle.std.proofs.lemmas.Bool.{or_cases, or_left, or_right, cases_lt, cases_eq}
use Rattle.std.proofs.lemmas.Bool.Decides.{nat_tests}
use Rattle.cp_lists.specs.Lists.{IsIn, here, there}
use Rattle.cp_lists.proofs.Members.{in_append_left, in_last, in_pushed, into_map, from_map, into_filter, from_filter}
use Rattle.cp_lists.proofs.Reached.{steps_append}
use Rattle.cp_model.specs.Term.{Term}
use Rattle.cp_model.specs.declared.strand.Event.TheVariants.{Send as send, Receive as recv}
use Rattle.cp_model.specs.Same.{same_node}
use Rattle.cp_model.specs.declared.node.Node.{Node}
use Rattle.cp_model.specs.declared.node.OrderPair.{OrderPair}
use Rattle.cp_model.specs.Skeleton.{term_event_at, IsNodeOf, Skeleton, Before}
use Rattle.cp_model.specs.Order.{IsAtOrAfter}
use Rattle.cp_model.proofs.SameTests.{node_is, is_node}
use Rattle.cp_skel.specs.Ordered.{IsOrdered}
use Rattle.cp_general.specs.Steps.{IsPairOfOrder}
use Rattle.cp_general.specs.CoveringPairs.{led_to, predecessors_of, is_earlier_on_strand, is_below_one, some_is_below, is_covered}
use Rattle.cp_general.proofs.Ways.{along, rises, arrives, departs}

-- ---- nodes that are gathered

-- of the pairs that pass a test, which are told by the node at one end
module _ (test : OrderPair → Bool) (end : OrderPair → Node) (pair_to : Node → OrderPair) (told : (q : OrderPair) → test q ≡ true → pair_to (end q) ≡ q) where
  from_ends : (ps : List OrderPair) (z : Node) → IsIn z (map end (filter test ps)) → IsIn (pair_to z) ps
  from_ends ps z m =
      let r = from_map end (filter test ps) m in
      let s = from_filter test ps r.1 in
      subst (λ (y : Node). IsIn (pair_to y) ps) r.2 (subst (λ (q : OrderPair). IsIn q ps) (sym (told r.0 s.1)) s.0)

to_led : (ps : List OrderPair) (q : OrderPair) → IsIn q ps → IsIn q.later (led_to ps q.earlier)
to_led ps q m = into_map (λ (p : OrderPair). p.later) (into_filter (λ (p : OrderPair). same_node p.earlier q.earlier) ps m (is_node q.earlier q.earlier refl))

from_led : (ps : List OrderPair) (x y : Node) → IsIn y (led_to ps x) → IsIn (record { earlier = x; later = y }) ps
from_led ps x = from_ends (λ p. same_node p.earlier x) (λ p. p.later) (λ y. record { earlier = x; later = y }) (λ q e. ap (λ (n : Node). record { earlier = n; later = q.later }) (sym (node_is q.earlier x e))) ps

to_leading : (ps : List OrderPair) (q : OrderPair) → IsIn q ps → IsIn q.earlier (predecessors_of ps q.later)
to_leading ps q m = into_map (λ (p : OrderPair). p.earlier) (into_filter (λ (p : OrderPair). same_node p.later q.later) ps m (is_node q.later q.later refl))

from_leading : (ps : List OrderPair) (x y : Node) → IsIn x (predecessors_of ps y) → IsIn (record { earlier = x; later = y }) ps
from_leading ps x y = from_ends (λ p. same_node p.later y) (λ p. p.earlier) (λ z. record { earlier = z; later = y }) (λ q e. ap (λ (n : Node). record { earlier = q.earlier; later = n }) (sym (node_is q.later y e))) ps x

-- ---- what is below what

test_says : (a b i j : ℕ) → ((a == b) && nat_lt i j) ≡ true → (a ≡ b) × (i < j)
test_says a b i j h = (grind (arith, nat_tests), grind (arith, nat_tests))

says_test : (a b i j : ℕ) → a ≡ b → i < j → ((a == b) && nat_lt i j) ≡ true
says_test a b i j e l = grind (arith, nat_tests)

record IsBelowOne (x : Node) (ys : List Node) : Type 0 where
  upper : Node
  listed : IsIn upper ys
  strand : x.strand ≡ upper.strand
  index : x.index < upper.index

below_one : (x : Node) (ys : List Node) → is_below_one x ys ≡ true → IsBelowOne x ys
below_one x [] e = absurd (cc)
below_one x (y ∷ ys) e = elim (or_cases (is_earlier_on_strand x y) (is_below_one x ys) e) as (λ _. IsBelowOne x (y ∷ ys)) [
  | inl h ↦ let t = test_says x.strand y.strand x.index y.index h in record { upper = y; listed = here; strand = t.0; index = t.1 }
  | inr h ↦ let r = below_one x ys h in record { upper = r.upper; listed = there r.listed; strand = r.strand; index = r.index }
]

one_below : (x y : Node) (ys : List Node) → IsIn y ys → x.strand ≡ y.strand → x.index < y.index → is_below_one x ys ≡ true
one_below x y [] m s l = elim m [ ]
one_below x y (z ∷ ys) here s l = or_left (is_earlier_on_strand x y) (is_below_one x ys) (says_test x.strand y.strand x.index y.index s l)
one_below x y (z ∷ ys) (there m) s l = or_right (is_earlier_on_strand x z) (is_below_one x ys) (one_below x y ys m s l)

record IsBelow (xs ys : List Node) : Type 0 where
  lower : Node
  listed : IsIn lower xs
  below : IsBelowOne lower ys

some_below : (xs ys : List Node) → some_is_below xs ys ≡ true → IsBelow xs ys
some_below [] ys e = absurd (cc)
some_below (x ∷ xs) ys e = elim (or_cases (is_below_one x ys) (some_is_below xs ys) e) as (λ _. IsBelow (x ∷ xs) ys) [
  | inl h ↦ record { lower = x; listed = here; below = below_one x ys h }
  | inr h ↦ let r = some_below xs ys h in record { lower = r.lower; listed = there r.listed; below = r.below }
]

below_some : (x y : Node) (xs ys : List Node) → IsIn x xs → IsIn y ys → x.strand ≡ y.strand → x.index < y.index → some_is_below xs ys ≡ true
below_some x y [] ys m n s l = elim m [ ]
below_some x y (z ∷ xs) ys here n s l = or_left (is_below_one x ys) (some_is_below xs ys) (one_below x y ys n s l)
below_some x y (z ∷ xs) ys (there m) n s l = or_right (is_below_one z ys) (some_is_below xs ys) (below_some x y xs ys m n s l)

-- ---- what is between the nodes of a pair

module _ (k : Skeleton) (ordered : IsOrdered k) (pairs : List OrderPair) (each : (q : OrderPair) → IsIn q pairs ↔ IsPairOfOrder k q) (p : OrderPair) (m : IsIn p pairs) where
  own : IsPairOfOrder k p
  own = (each p).0 m

  pub record IsBetween : Type 0 where
    pub node : Node
    pub after_first : Before k p.earlier node
    pub before_last : Before k node p.later

  -- a node from which a pair leads to the last, or the last
  abbrev LastOr : Node → Type 0
  LastOr y = IsIn y (predecessors_of pairs p.later) ⊎ (p.later ≡ y)

  into : (y : Node) → IsIn y (predecessors_of pairs p.later) → IsPairOfOrder k (record { earlier = y; later = p.later })
  into y i = (each (record { earlier = y; later = p.later })).0 (from_leading pairs y p.later i)

  onto : (x : Node) → IsIn x (led_to pairs p.earlier) → IsPairOfOrder k (record { earlier = p.earlier; later = x })
  onto x i = (each (record { earlier = p.earlier; later = x })).0 (from_led pairs p.earlier x i)

  last_node : (y : Node) → LastOr y → IsNodeOf k.strands y
  last_node y (inl i) = let o = (into y i).pair in (send o.sent, o.transmission)
  last_node y (inr e) = (recv own.pair.received, subst (λ (z : Node). term_event_at k.strands z ≡ Some (recv own.pair.received)) e own.pair.reception)

  on_to_last : (x y : Node) → Before k x y → LastOr y → Before k x p.later
  on_to_last x y b (inl i) = steps_append b (into y i).ordered
  on_to_last x y b (inr e) = subst (λ (z : Node). Before k x z) (sym e) b

  found_between : (x y : Node) → x.strand ≡ y.strand → x.index < y.index → IsIn x (led_to pairs p.earlier) ⊎ (p.earlier ≡ x) → LastOr y → IsBetween
  found_between x y s l (inl i) last = record { node = x; after_first = (onto x i).ordered; before_last = on_to_last x y (along k ordered x y s l (last_node y last)) last }
  found_between x y s l (inr e) (inl i) = record {
    node = y;
    after_first = subst (λ (z : Node). Before k z y) (sym e) (along k ordered x y s l (last_node y (inl i)));
    before_last = (into y i).ordered;
  }
  found_between x y s l (inr e) (inr f) = absurd (own.pair.between_strands (ap (λ (z : Node). z.strand) e ∙ s ∙ ap (λ (z : Node). z.strand) (sym f)))

  pub covered_between : is_covered pairs p ≡ true → IsBetween
  covered_between t =
      let r = some_below (led_to pairs p.earlier ++ (p.earlier ∷ [])) (predecessors_of pairs p.later ++ (p.later ∷ [])) t in
      found_between r.lower r.below.upper r.below.strand r.below.index (in_pushed (led_to pairs p.earlier) p.earlier r.lower r.listed)
      (in_pushed (predecessors_of pairs p.later) p.later r.below.upper r.below.listed)

  -- a transmission that is before a reception of another strand is in a pair with it
  listed_pair : (x y : Node) (s t : Term) → term_event_at k.strands x ≡ Some (send s) → term_event_at k.strands y ≡ Some (recv t) → x.strand ≢ y.strand → Before k x y → IsIn (record { earlier = x; later = y }) pairs
  listed_pair x y s t sends hears apart before =
      (each (record { earlier = x; later = y })).1 (record { pair = record { sent = s; received = t; transmission = sends; reception = hears; between_strands = apart }; ordered = before })

  -- what leads along a pair, or not at all, to a node of n's strand
  record Row (n : Node) : Type 0 where
    node : Node
    listed : IsIn node (led_to pairs p.earlier ++ (p.earlier ∷ []))
    up : IsAtOrAfter node n
    strict : (node.index < n.index) ⊎ ((t : Term) × (term_event_at k.strands node ≡ Some (recv t)))

  row : (n : Node) → Before k p.earlier n → Row n
  row n b = of (cases_eq p.earlier.strand n.strand)
    where
      of : (p.earlier.strand ≡ n.strand) ⊎ (p.earlier.strand ≢ n.strand) → Row n
      of (inl s) =
          let l : p.earlier.index < n.index = rises k ordered p.earlier n s b in
          record { node = p.earlier; listed = in_last (led_to pairs p.earlier) p.earlier; up = (s, omega (arith, l)); strict = inl l }
      of (inr h) =
          let a = arrives k ordered p.earlier n h b in
          let i = listed_pair p.earlier a.node own.pair.sent a.message own.pair.transmission a.event (λ e. h (e ∙ a.holds.0.0)) a.holds.1 in
          record { node = a.node; listed = in_append_left (p.earlier ∷ []) (to_led pairs (record { earlier = p.earlier; later = a.node }) i); up = a.holds.0; strict = inr (a.message, a.event) }

  record Column (n : Node) : Type 0 where
    node : Node
    listed : IsIn node (predecessors_of pairs p.later ++ (p.later ∷ []))
    up : IsAtOrAfter n node
    strict : (n.index < node.index) ⊎ ((t : Term) × (term_event_at k.strands node ≡ Some (send t)))

  column : (n : Node) → Before k n p.later → Column n
  column n b = of (cases_eq n.strand p.later.strand)
    where
      of : (n.strand ≡ p.later.strand) ⊎ (n.strand ≢ p.later.strand) → Column n
      of (inl s) =
          let l : n.index < p.later.index = rises k ordered n p.later s b in
          record { node = p.later; listed = in_last (predecessors_of pairs p.later) p.later; up = (s, omega (arith, l)); strict = inl l }
      of (inr h) =
          let d = departs k ordered n p.later h b in
          let i = listed_pair d.node p.later d.message own.pair.received d.event own.pair.reception (λ e. h (d.holds.0.0 ∙ e)) d.holds.1 in
          record { node = d.node; listed = in_append_left (p.later ∷ []) (to_leading pairs (record { earlier = d.node; later = p.later }) i); up = d.holds.0; strict = inr (d.message, d.event) }

  never_both : (x y : Node) (s t : Term) → x ≡ y → term_event_at k.strands x ≡ Some (recv s) → term_event_at k.strands y ≡ Some (send t) → ⊥
  never_both x y s t e r w =
      let here_sent : term_event_at k.strands x ≡ Some (send t) = subst (λ (z : Node). term_event_at k.strands z ≡ Some (send t)) (sym e) w in
      cc

  strictly : (n : Node) (r : Row n) (c : Column n) → (r.node.index < n.index) ⊎ ((t : Term) × (term_event_at k.strands r.node ≡ Some (recv t)))
      → (n.index < c.node.index) ⊎ ((t : Term) × (term_event_at k.strands c.node ≡ Some (send t))) → (r.node.index < c.node.index) ⊎ (c.node.index ≤ r.node.index) → r.node.index < c.node.index
  strictly n r c a b (inl l) = l
  strictly n r c (inl l) b (inr ge) = let i = c.up.1 in omega arith
  strictly n r c (inr f) (inl l) (inr ge) = let i = r.up.1 in omega arith
  strictly n r c (inr f) (inr g) (inr ge) =
      let i : r.node.index ≤ n.index = r.up.1 in
      let j : n.index ≤ c.node.index = c.up.1 in
      let same_index : r.node.index ≡ c.node.index = omega arith in
      let same_strand : r.node.strand ≡ c.node.strand = r.up.0 ∙ c.up.0 in
      let same : r.node ≡ c.node = λ i. record { strand = same_strand i; index = same_index i } in
      absurd (never_both r.node c.node f.0 g.0 same f.1 g.1)

  pub between_covered : (n : Node) → Before k p.earlier n → Before k n p.later → is_covered pairs p ≡ true
  between_covered n a b =
      let r = row n a in
      let c = column n b in
      below_some r.node c.node (led_to pairs p.earlier ++ (p.earlier ∷ [])) (predecessors_of pairs p.later ++ (p.later ∷ [])) r.listed c.listed (r.up.0 ∙ c.up.0)
      (strictly n r c r.strict c.strict (cases_lt r.node.index c.node.index))
