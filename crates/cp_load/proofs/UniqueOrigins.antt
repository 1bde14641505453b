-- The origins of unique values, strand by strand.
use Rattle.std.proofs.Common.{◌≡◌, ℕ, suc, ◌+◌, ◌<◌, ◌≤◌, List, [], ◌∷◌, ◌++◌, length, get_or, drop, map, ◌||◌, refl, sym, ap, ◌∙◌, add-one, Bool, true, false, Option, Some, None, if◌then◌else◌}
use Rattle.std.proofs.lemmas.List.{at_drop_all}
use Rattle.cp_lists.proofs.Members.{drop_read}
use Rattle.cp_model.specs.Term.{Term, AtomTerm, atom_term, apply_to}
use Rattle.cp_model.specs.Homomorphism.{substitution_by}
use Rattle.cp_model.specs.declared.strand.Event.{Event}
use Rattle.cp_model.specs.Strand.{payload, event_map, prefix_of, Role}
use Rattle.cp_model.specs.declared.strand.Event.TheVariants.{Send as send, Receive as recv}
use Rattle.cp_model.specs.Skeleton.{SkeletonStrand, instance, listener, skeleton_trace, UniqueAt}
use Rattle.cp_model.specs.Same.{carries, origin_in}
use Rattle.cp_language.specs.Roles.{is_somewhere}
use Rattle.cp_model.specs.Given.{uniques_onto}
use Rattle.cp_language.specs.Problems.{origins_on, origins_from, is_not_empty, own_uniques}
use Rattle.cp_load.specs.Originations.{origin_on, originates, unique_at, place_if_sent}
use Rattle.cp_model.proofs.Gathered.{onto-append, uniques}
use Rattle.cp_model.proofs.LawEvents.{payload_map}
use Rattle.cp_load.proofs.Origins.{origin_from, origin-first}

-- ---- along an instance

pub same_prefix : (es : List (Event Term)) (r role : Role) (h height : ℕ) → es ≡ prefix_of r h → r ≡ role → h ≡ height → es ≡ prefix_of role height
same_prefix es r role h height e f g = e ∙ ap (λ x. prefix_of x h) f ∙ ap (prefix_of role) g

sent_mapped : (f : Term → Term) (e : Event Term) (n : ℕ) → place_if_sent (event_map f e) n ≡ place_if_sent e n
sent_mapped f (send m) n = refl
sent_mapped f (recv m) n = refl

module _ (f : Term → Term) (v : Term) (es : List (Event Term)) (i : ℕ) where
  pub mapped-origin-at : (e : Event Term) (b : Bool) → i < length es → e ≡ get_or es i e → b ≡ carries (f (payload e)) v
      → origin_from v i (map (event_map f) (drop i es)) ≡ (if b then place_if_sent e i else origin_from v (i + 1) (map (event_map f) (drop (i + 1) es)))
  mapped-origin-at e b lt is g =
      let rest = map (event_map f) (drop (i + 1) es) in
      ap (λ us. origin_from v i (map (event_map f) us)) (drop_read es i e lt is)
      ∙ ap (λ t. if carries t v then place_if_sent (event_map f e) i else origin_from v (suc i) rest) (payload_map f e)
      ∙ ap (λ c. if c then place_if_sent (event_map f e) i else origin_from v (suc i) rest) (sym g)
      ∙ ap (λ p. if b then p else origin_from v (suc i) rest) (sent_mapped f e i)
      ∙ ap (λ k. if b then place_if_sent e i else origin_from v k rest) (sym (add-one i))

  pub mapped-origin-end : length es ≤ i → origin_from v i (map (event_map f) (drop i es)) ≡ None
  mapped-origin-end le = at_drop_all (λ us. origin_from v i (map (event_map f) us)) es i le

pub origin-found : (f : Term → Term) (v : Term) (es : List (Event Term)) (trace : List (Event Term)) → es ≡ trace → (i : ℕ)
    → origin_from v 0 (map (event_map f) es) ≡ origin_from v i (map (event_map f) (drop i es))
    → (o : Option ℕ) → origin_from v i (map (event_map f) (drop i es)) ≡ o → o ≡ origin_in (map (event_map f) trace) v
origin-found f v es trace e i h o g =
    sym (origin-first v (map (event_map f) trace) ∙ ap (λ us. origin_from v 0 (map (event_map f) us)) (sym e) ∙ h ∙ g)

-- an event that becomes one that carries the value
pub carried-here : (values : List Term) (v : Term) (es : List (Event Term)) (trace : List (Event Term)) → es ≡ trace → (i : ℕ)
    → origin_from v 0 (map (event_map (apply_to (substitution_by values))) es) ≡ origin_from v i (map (event_map (apply_to (substitution_by values))) (drop i es))
    → (e : Event Term) → i < length es → e ≡ get_or es i e → (ts : List Term) → ts ≡ values → (m : Term) → m ≡ payload e
    → (b : Bool) → b ≡ true → b ≡ carries (apply_to (substitution_by ts) m) v
    → place_if_sent e i ≡ origin_in (map (event_map (apply_to (substitution_by values))) trace) v
carried-here values v es trace prefix i h e lt is ts same m message b holds test =
    let f = apply_to (substitution_by values) in
    let carried : true ≡ carries (f (payload e)) v = sym holds ∙ test ∙ ap (λ us. carries (apply_to (substitution_by us) m) v) same ∙ ap (λ x. carries (f x) v) message in
    origin-found f v es trace prefix i h (place_if_sent e i) (mapped-origin-at f v es i e true lt is carried)

-- ---- strand by strand

pub origins-on : (k : SkeletonStrand) (s : ℕ) (v : AtomTerm) → origins_on k s v ≡ unique_at v s (origin_on k (atom_term v))
origins-on (listener t) s v = refl
origins-on (instance role height terms) s v = by_origin (origin_in (skeleton_trace (instance role height terms)) (atom_term v)) refl
  where
    by_origin : (o : Option ℕ) → origin_in (skeleton_trace (instance role height terms)) (atom_term v) ≡ o → origins_on (instance role height terms) s v ≡ unique_at v s o
    by_origin None e = rw e refl
    by_origin (Some i) e = rw e refl

somewhere : (v : AtomTerm) (s : ℕ) (o : Option ℕ) (rest : List UniqueAt) (b : Bool) → is_not_empty rest ≡ b → is_not_empty (unique_at v s o ++ rest) ≡ (if is_somewhere o then true else b)
somewhere v s None rest b e = e
somewhere v s (Some i) rest b e = refl

or-if : (a b : Bool) → (if a then true else b) ≡ (a || b)
or-if true b = refl
or-if false b = refl

pub not-nowhere : (ks : List SkeletonStrand) (s : ℕ) (v : AtomTerm) → is_not_empty (origins_from s ks v) ≡ originates ks v
not-nowhere [] s v = refl
not-nowhere (k ∷ ks) s v =
    ap (λ us. is_not_empty (us ++ origins_from (suc s) ks v)) (origins-on k s v)
    ∙ somewhere v s (origin_on k (atom_term v)) (origins_from (suc s) ks v) (originates ks v) (not-nowhere ks (suc s) v) ∙ or-if (is_somewhere (origin_on k (atom_term v))) (originates ks v)

-- ---- value by value

module _ (ks : List SkeletonStrand) (vs : List AtomTerm) (n : ℕ) (us ws all : List UniqueAt) where
  pub own-taken : (v : AtomTerm) → n < length vs → v ≡ get_or vs n v → ws ≡ uniques_onto us (origins_from 0 ks v)
      → uniques_onto us (own_uniques ks (drop n vs)) ≡ all → uniques_onto ws (own_uniques ks (drop (n + 1) vs)) ≡ all
  own-taken v lt is g h =
      let rest = drop (n + 1) vs in
      ap (λ xs. uniques_onto xs (own_uniques ks rest)) g ∙ sym (onto-append uniques us (origins_from 0 ks v) (own_uniques ks rest))
      ∙ sym (ap (λ ls. uniques_onto us (own_uniques ks ls)) (drop_read vs n v lt is)) ∙ h
