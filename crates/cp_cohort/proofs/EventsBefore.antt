-- Skeletons with an event put before a node: those that have grown, and those with a listener.
use Rattle.std.proofs.Common.{◌≡◌, ℕ, zero, suc, ◌+◌, ◌<◌, List, [], ◌∷◌, ◌++◌, length, Option, Some, None, true, refl, sym, ap, ◌∙◌, subst, ⊎_elim, arith}
use Rattle.std.specs.Prelude.{◌≢◌}
use Rattle.cp_lists.specs.Lists.{item_at, IsIn, here, there, one_step, more_steps}
use Rattle.cp_lists.proofs.Items.{item_below, item_behind}
use Rattle.cp_lists.proofs.Members.{in_pushed, head_or_behind, at_head}
use Rattle.cp_lists.proofs.Reached.{steps_alike}
use Rattle.cp_model.specs.Term.{Term, variables_of, variable_term}
use Rattle.cp_model.specs.declared.sort.Sort.{Sort}
use Rattle.cp_model.specs.declared.sort.Sort.TheVariants.{Text as text_sort, Datum as datum_sort, Name as name_sort, Skey as skey_sort, Akey as akey_sort}
use Rattle.cp_model.specs.declared.variable.Variable.{Variable}
use Rattle.cp_model.specs.Strand.{Role, Protocol}
use Rattle.cp_model.specs.declared.strand.Event.{Event}
use Rattle.cp_model.specs.declared.strand.Event.TheVariants.{Send as send, Receive as recv}
use Rattle.cp_model.specs.declared.variable.Declaration.{Declaration}
use Rattle.cp_model.specs.Bundle.{node_at}
use Rattle.cp_model.specs.declared.node.Node.{Node}
use Rattle.cp_model.specs.declared.node.OrderPair.{OrderPair}
use Rattle.cp_model.specs.Skeleton.{SkeletonStrand, listener, skeleton_trace_or_none, term_event_at, Skeleton, OrderStep, along_strand_of, along_pair, Before, IsOrderPair, IsSkeleton}
use Rattle.cp_model.specs.Problem.{declared_sort, IsDeclared}
use Rattle.cp_model.specs.PrefixVariables.{fits, AreTermsFor}
use Rattle.cp_skel.specs.Ordered.{ordered_by}
use Rattle.cp_model.specs.Extensions.{AddsListener}
use Rattle.cp_skel.proofs.CarriedHomomorphisms.{ordered_is_skeleton, pair_stays_skeleton}
use Rattle.cp_skel.proofs.StaySkeletons.{appended-grows, appended-last, listener-stays-skeleton}
use Rattle.cp_theory.specs.Fresh.{fresh_terms}
use Rattle.cp_theory.specs.Covering.{put_before}
use Rattle.cp_cohort.specs.CoveringChildren.{declaration_onto, declarations_among}
use Rattle.cp_cohort.proofs.OpenedPatterns.{variable, only_itself}

-- ---- orders

other_pairs : (k : Skeleton) (ps qs : List OrderPair) → ((p : OrderPair) → IsIn p ps → IsIn p qs) → (x y : Node) → OrderStep (ordered_by k ps) x y → OrderStep (ordered_by k qs) x y
other_pairs k ps qs all x y (along_strand_of ev) = along_strand_of ev
other_pairs k ps qs all x y (along_pair {p = p} i) = along_pair (all p i)

same_pair : (k : Skeleton) (ps : List OrderPair) (p : OrderPair) → IsOrderPair k p → IsOrderPair (ordered_by k ps) p
same_pair k ps p o = record { sent = o.sent; received = o.received; transmission = o.transmission; reception = o.reception; between_strands = o.between_strands }

module _ (protocol : Protocol) (k : Skeleton) (sk : IsSkeleton protocol k) (m n : Node) (sent received : Term) (transmission : term_event_at k.strands m ≡ Some (send sent)) (reception : term_event_at k.strands n ≡ Some (recv received)) (apart : m.strand ≢ n.strand) where
  abbrev pair : OrderPair
  pair = record { earlier = m; later = n }

  abbrev pairs : List OrderPair
  pairs = k.pairs ++ pair ∷ []

  is_pair : IsOrderPair k pair
  is_pair = record { sent = sent; received = received; transmission = transmission; reception = reception; between_strands = apart }

  -- A skeleton stays one, where the transmission put before the reception closes no cycle.
  pub put_is_skeleton : ((y : Node) → Before (put_before m n k) y y → ⊥) → IsSkeleton protocol (put_before m n k)
  put_is_skeleton acyclic = ordered_is_skeleton protocol k sk pairs (record {
    order_pairs = λ p i. same_pair k pairs p (⊎_elim (λ j. sk.order_pairs p j) (λ e. subst (IsOrderPair k) e is_pair) (in_pushed k.pairs pair p i));
    no_cycle = acyclic;
  })

  -- So it does where n is not before m.
  pub put_closes_no_cycle : (Before k n m → ⊥) → (y : Node) → Before (put_before m n k) y y → ⊥
  put_closes_no_cycle none y before =
      (pair_stays_skeleton protocol k pair sk is_pair none).no_cycle y
      (steps_alike (other_pairs k pairs (pair ∷ k.pairs) (λ p i. ⊎_elim (λ j. there j) (λ e. at_head (sym e)) (in_pushed k.pairs pair p i))) before)

-- ---- a new listener

module _ (protocol : Protocol) (t : Term) (k e : Skeleton) (sk : IsSkeleton protocol k) (adds : AddsListener t k e) (n : Node) (received : Term) (reception : term_event_at k.strands n ≡ Some (recv received)) where
  abbrev place : ℕ
  place = length k.strands

  strands_are : e.strands ≡ k.strands ++ listener t ∷ []
  strands_are = ap (λ (z : Skeleton). z.strands) adds

  pairs_are : e.pairs ≡ k.pairs
  pairs_are = ap (λ (z : Skeleton). z.pairs) adds

  old_place : (m : Node) (d : Event Term) → term_event_at k.strands m ≡ Some d → m.strand < place
  old_place m d at = by_strand (item_at k.strands m.strand) refl at
    where
      by_strand : (o : Option SkeletonStrand) → item_at k.strands m.strand ≡ o → item_at (skeleton_trace_or_none o) m.index ≡ Some d → m.strand < place
      by_strand None is ev = absurd (cc)
      by_strand (Some st) is ev = item_below k.strands m.strand st is

  step_stays : {x y : Node} → OrderStep e x y → y.strand ≡ place → x.strand ≡ place
  step_stays (along_strand_of ev) same = same
  step_stays (along_pair {p = p} i) same =
      let o = sk.order_pairs p (subst (IsIn p) pairs_are i) in
      let l : p.later.strand < place = old_place p.later (recv o.received) o.reception in
      absurd (omega (arith, l, same))

  way_stays : {x y : Node} → Before e x y → y.strand ≡ place → x.strand ≡ place
  way_stays (one_step s) same = step_stays s same
  way_stays (more_steps s p) same = step_stays s (way_stays p same)

  none_before : Before e n (node_at place 1) → ⊥
  none_before before =
      let same : n.strand ≡ place = way_stays before refl in
      let l : n.strand < place = old_place n (recv received) reception in
      omega (arith, l, same)

  sends : term_event_at e.strands (node_at place 1) ≡ Some (send t)
  sends = ap (λ (o : Option SkeletonStrand). item_at (skeleton_trace_or_none o) 1) (appended-last k e (listener t) strands_are pairs_are)

  still_heard : term_event_at e.strands n ≡ Some (recv received)
  still_heard = (appended-grows k e (listener t) strands_are pairs_are).events n (recv received) reception

  apart : place ≢ n.strand
  apart same = let l : n.strand < place = old_place n (recv received) reception in omega (arith, l, same)

  added_skeleton : IsSkeleton protocol e
  added_skeleton = listener-stays-skeleton protocol t k e sk adds

  -- The skeleton with the listener, put before the node.
  pub listening_is_skeleton : IsSkeleton protocol (put_before (node_at place 1) n e)
  listening_is_skeleton =
      put_is_skeleton protocol e added_skeleton (node_at place 1) n t received sends still_heard apart
      (put_closes_no_cycle protocol e added_skeleton (node_at place 1) n t received sends still_heard apart none_before)

-- ---- new variables

pub fresh_fit : (n : ℕ) (xs : List Variable) → AreTermsFor xs (fresh_terms n xs)
fresh_fit n [] = tt
fresh_fit n (x ∷ xs) = (of_sort x.sort n, fresh_fit (suc n) xs)
  where
    of_sort : (s : Sort) (m : ℕ) → fits s (variable_term (variable s m)) ≡ true
    of_sort text_sort m = refl
    of_sort datum_sort m = refl
    of_sort name_sort m = refl
    of_sort skey_sort m = refl
    of_sort akey_sort m = refl

-- Each of the new terms is the variable for a place of the list.
record IsFresh (n : ℕ) (xs : List Variable) (t : Term) : Type 0 where
  place : ℕ
  of : Variable
  there_is : item_at xs place ≡ Some of
  same : t ≡ variable_term (variable of.sort (n + place))

fresh_one : (n : ℕ) (xs : List Variable) (t : Term) → IsIn t (fresh_terms n xs) → IsFresh n xs t
fresh_one n [] t i = elim i [ ]
fresh_one n (x ∷ xs) t i = ⊎_elim first (λ j. behind (fresh_one (suc n) xs t j)) (head_or_behind i)
  where
    first : t ≡ variable_term (variable x.sort n) → IsFresh n (x ∷ xs) t
    first e = let number : n ≡ n + 0 = omega arith in record { place = 0; of = x; there_is = refl; same = e ∙ ap (λ (m : ℕ). variable_term (variable x.sort m)) number }

    behind : IsFresh (suc n) xs t → IsFresh n (x ∷ xs) t
    behind r =
        let number : suc n + r.place ≡ n + suc r.place = omega arith in
        record { place = suc r.place; of = r.of; there_is = r.there_is; same = r.same ∙ ap (λ (m : ℕ). variable_term (variable r.of.sort m)) number }

-- The declarations of variables that the role declares are one for each.
declared_place : (role : Role) (xs : List Variable) → ((x : Variable) → IsIn x xs → IsDeclared role.variables x) → (i : ℕ) (x : Variable) → item_at xs i ≡ Some x → declared_sort (item_at (declarations_among role xs) i) ≡ Some x.sort
declared_place role [] all i x at = absurd (cc)
declared_place role (y ∷ ys) all i x at = by_declaration (item_at role.variables y.number) (all y here) i at (λ j there_is. declared_place role ys (λ z m. all z (there m)) j x there_is)
  where
    by_declaration : (o : Option Declaration) → declared_sort o ≡ Some y.sort → (j : ℕ) → item_at (y ∷ ys) j ≡ Some x → ((m : ℕ) → item_at ys m ≡ Some x → declared_sort (item_at (declarations_among role ys) m) ≡ Some x.sort) →
        declared_sort (item_at (declaration_onto o (declarations_among role ys)) j) ≡ Some x.sort
    by_declaration None e j there_is rest = absurd (cc)
    by_declaration (Some d) e zero there_is rest = let same : y ≡ x = cc in e ∙ ap (λ (z : Variable). Some z.sort) same
    by_declaration (Some d) e (suc j) there_is rest = rest j there_is

pub fresh_declared : (ds : List Declaration) (role : Role) (xs : List Variable) → ((x : Variable) → IsIn x xs → IsDeclared role.variables x) → (t : Term) (x : Variable) → IsIn t (fresh_terms (length ds) xs) → IsIn x (variables_of t) →
    IsDeclared (ds ++ declarations_among role xs) x
fresh_declared ds role xs all t x i j =
    let r = fresh_one (length ds) xs t i in
    let same : x ≡ variable r.of.sort (length ds + r.place) = only_itself (variable r.of.sort (length ds + r.place)) x (subst (λ (u : Term). IsIn x (variables_of u)) r.same j) in
    subst (IsDeclared (ds ++ declarations_among role xs)) (sym same) (ap declared_sort (item_behind ds (declarations_among role xs) r.place) ∙ declared_place role xs all r.place r.of r.there_is)
