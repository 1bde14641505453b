-- No collapse is by an impossible partition, so that the partitions of the collapses are determined.
use Rattle.std.proofs.Common.{◌≡◌, ◌⊎◌, inl, inr, ℕ, zero, suc, ◌<◌, List, [], ◌∷◌, Some, refl, sym, ap, ap₂, ◌∙◌, subst, arith, eq-or-lt_of_le}
use Rattle.cp_lists.specs.Lists.{item_at, IsIn, here, there, one_step, more_steps}
use Rattle.cp_lists.proofs.Items.{item_before}
use Rattle.cp_lists.proofs.Members.{in_cases}
use Rattle.cp_lists.proofs.Reached.{steps_append}
use Rattle.cp_model.specs.Term.{Term, after, Substitution, apply_to, composed, variable_term, value_of}
use Rattle.cp_model.specs.Bindings.{as_substitution}
use Rattle.cp_model.specs.Strand.{event_map}
use Rattle.cp_model.specs.declared.strand.Event.{Event}
use Rattle.cp_model.specs.declared.strand.Event.TheVariants.{Send as send, Receive as recv}
use Rattle.cp_model.specs.Bundle.{node_at}
use Rattle.cp_model.specs.declared.node.Node.{Node}
use Rattle.cp_model.specs.Skeleton.{SkeletonStrand, instance, listener, skeleton_trace, skeleton_trace_or_none, term_event_at, IsNodeOf, Skeleton, OrderStep, along_strand_of, along_pair, Before}
use Rattle.cp_model.proofs.LawTerms.{term_composed, value_after}
use Rattle.cp_model.proofs.LawStandings.{strand_of_event, event_of_instance, event_of_higher, skeleton_climb}
use Rattle.cp_unify.proofs.Free.{free}
use Rattle.cp_collapse.specs.Partitions.{IsPartitionByRole, place_in, IdentifiesValues, IsLower, AreDescending}
use Rattle.cp_collapse.specs.Collapses.{IsCollapsed, HasNoCycle, HasWayBackward, IsImpossible, IsCollapse, AreCollapsesBy, no_collapses, collapse_by, AreCollapses}
use Rattle.cp_collapse.proofs.DescendingLists.{never_lower}
use Rattle.cp_collapse.proofs.Merged.{event_in, before_in}
use Rattle.cp_collapse.proofs.OneUnifier.{one_unifier}
use Rattle.cp_collapse.proofs.Places.{strand_at_place}

-- ---- some assignment gives the blocks equal values

some_identifies : (k l : Skeleton) (p : List ℕ) (c : IsCollapsed k p l) → IdentifiesValues k p (after free c.unifier)
some_identifies k l p c s t role height terms height' terms' at au a x i j =
    value (as_substitution terms) ∙ ap (value_of free) (c.most_general.identifies s t role height terms height' terms' at au a x i j) ∙ sym (value (as_substitution terms'))
  where
    value : (d : Substitution) → value_of (after (after free c.unifier) d) (variable_term x) ≡ value_of free (apply_to (composed d c.unifier) (variable_term x))
    value d =
        value_after (after free c.unifier) d (variable_term x)
        ∙ value_after free c.unifier (apply_to d (variable_term x))
        ∙ ap (value_of free) (sym (term_composed d c.unifier (variable_term x)))

pub one_substitution : (k l m : Skeleton) (p : List ℕ) (c : IsCollapsed k p l) (d : IsCollapsed k p m) (u : Term) → apply_to c.unifier u ≡ apply_to d.unifier u
one_substitution k l m p c d =
    one_unifier (IdentifiesValues k p) c.unifier d.unifier c.most_general.directed d.most_general.directed (some_identifies k l p c) (some_identifies k m p d) c.most_general.general d.most_general.general

-- ---- all ways of merging have one order

module _ (k m l : Skeleton) (p : List ℕ) (part : IsPartitionByRole k p) (c : IsCollapsed k p m) (d : IsCollapsed k p l) where
  -- A listener comes from a listener.
  listener_too : (place s : ℕ) (t : Term) (st : SkeletonStrand) → item_at m.strands place ≡ Some (listener t) → place_in p s ≡ place → item_at k.strands s ≡ Some st → (u : Term) × (item_at l.strands place ≡ Some (listener u))
  listener_too place s t (instance role height terms) at there_is own =
      let go = c.instances s role height terms own in
      let e : Some (instance role go.to_height go.to_terms) ≡ Some (listener t) = sym go.on_instance ∙ ap (item_at m.strands) there_is ∙ at in
      absurd (cc)
  listener_too place s t (listener u) at there_is own = (apply_to d.unifier u, ap (item_at l.strands) (sym there_is) ∙ d.listeners s u own)

  listener_there : (place : ℕ) (t : Term) → item_at m.strands place ≡ Some (listener t) → (u : Term) × (item_at l.strands place ≡ Some (listener u))
  listener_there place t at = let own = strand_at_place k.strands m.strands p part.each c.count place (listener t) at in listener_too place own.0 t own.1 at own.2 own.3

  -- A node of one is a node of the other.
  node_on : (s i : ℕ) (st : SkeletonStrand) (e : Event Term) → item_at m.strands s ≡ Some st → item_at (skeleton_trace st) i ≡ Some e → IsNodeOf l.strands (node_at s i)
  node_on s i (instance role height terms) e at ev =
      let one = c.tallest s role height terms at in
      let go = d.instances one.strand role height one.terms one.on_instance in
      let u = event_of_instance role height terms i e ev in
      let less = u.0 in
      let at_least = go.at_least in
      (event_map (apply_to (as_substitution go.to_terms)) u.1, event_of_higher l.strands s i role go.to_height go.to_terms u.1 (ap (item_at l.strands) (sym one.at_place) ∙ go.on_instance) (omega (arith, less, at_least)) u.2)
  node_on s i (listener t) e at ev = let u = listener_there s t at in on_listener u.0 u.1 i ev
    where
      on_listener : (u : Term) → item_at l.strands s ≡ Some (listener u) → (j : ℕ) → item_at (skeleton_trace (listener t)) j ≡ Some e → IsNodeOf l.strands (node_at s j)
      on_listener u h zero f = (recv u, rw h refl)
      on_listener u h (suc zero) f = (send u, rw h refl)
      on_listener u h (suc (suc j)) f = absurd (cc)

  node_too : (s i : ℕ) (e : Event Term) → term_event_at m.strands (node_at s i) ≡ Some e → IsNodeOf l.strands (node_at s i)
  node_too s i e ev = let st = strand_of_event m.strands (node_at s i) e ev in node_on s i st.0 e st.1 (rw st.1 at ev)

  step_too : {x y : Node} → OrderStep m x y → OrderStep l x y
  step_too (along_strand_of {s = s} {i = i} {e = e} ev) = along_strand_of (node_too s (suc i) e ev).1
  step_too (along_pair {p = q} i) = along_pair ((d.pairs q).1 ((c.pairs q).0 i))

  before_too : {x y : Node} → Before m x y → Before l x y
  before_too (one_step s) = one_step (step_too s)
  before_too (more_steps s r) = more_steps (step_too s) (before_too r)

-- ---- no collapse is impossible

module _ (k l : Skeleton) (p : List ℕ) (c : IsCollapsed k p l) (no_cycle : HasNoCycle l) (w : HasWayBackward k p) where
  -- The way begins at a node.
  begins_step : {x y : Node} → OrderStep k x y → IsNodeOf k.strands x
  begins_step (along_strand_of {s = s} {i = i} {e = e} ev) = item_before (skeleton_trace_or_none (item_at k.strands s)) i (suc i) e ev (omega arith)
  begins_step (along_pair {p = q} i) = let o = w.order_pairs q i in (send o.sent, o.transmission)

  begins : {x y : Node} → Before k x y → IsNodeOf k.strands x
  begins (one_step s) = begins_step s
  begins (more_steps s r) = begins_step s

  abbrev ends_at : Node
  ends_at = node_at (place_in p w.from.strand) w.to.index

  way_in : Before l (node_at (place_in p w.from.strand) w.from.index) ends_at
  way_in = subst (λ (s : ℕ). Before l (node_at (place_in p w.from.strand) w.from.index) (node_at s w.to.index)) (sym w.on_one) (before_in k l p c w.order_pairs w.way)

  circles : (w.to.index ≡ w.from.index) ⊎ (w.to.index < w.from.index) → ⊥
  circles (inl same) = no_cycle ends_at (subst (λ (i : ℕ). Before l (node_at (place_in p w.from.strand) i) ends_at) (sym same) way_in)
  circles (inr less) =
      let n = begins w.way in
      no_cycle ends_at (steps_append (skeleton_climb l (place_in p w.from.strand) w.to.index w.from.index (event_map (apply_to c.unifier) n.0) (event_in k l p c w.from n.0 n.1) less) way_in)

  never_leads_backward : ⊥
  never_leads_backward = circles (eq-or-lt_of_le w.backward)

pub collapse_is_possible : (k l : Skeleton) (p : List ℕ) → IsCollapse k p l → IsImpossible k p → ⊥
collapse_is_possible k l p c (inl never) = never (after free c.collapsed.unifier) (some_identifies k l p c.collapsed)
collapse_is_possible k l p c (inr (inl back)) = never_leads_backward k l p c.collapsed c.no_cycle back
collapse_is_possible k l p c (inr (inr cycle)) = c.no_cycle cycle.node (before_too k cycle.merged l p c.partition cycle.collapsed c.collapsed cycle.cycle)

-- ---- descending lists of the same items

never_both : (p q : List ℕ) → IsLower p q → IsLower q p → ⊥
never_both [] q l m = l
never_both (a ∷ p) [] l m = l
never_both (a ∷ p) (b ∷ q) (inl l) (inl m) = omega (arith, l, m)
never_both (a ∷ p) (b ∷ q) (inl l) (inr m) = let e = m.0 in omega (arith, l, e)
never_both (a ∷ p) (b ∷ q) (inr l) (inl m) = let e = l.0 in omega (arith, e, m)
never_both (a ∷ p) (b ∷ q) (inr l) (inr m) = never_both p q l.1 m.1

same_first : (p q : List ℕ) (ps qs : List (List ℕ)) → AreDescending (p ∷ ps) → AreDescending (q ∷ qs) → (q ≡ p) ⊎ IsIn p qs → (p ≡ q) ⊎ IsIn q ps → p ≡ q
same_first p q ps qs d f (inl e) m = sym e
same_first p q ps qs d f (inr i) (inl e) = e
same_first p q ps qs d f (inr i) (inr j) = absurd (never_both p q (f.0 p i) (d.0 q j))

rest_in : (p q : List ℕ) (ps qs : List (List ℕ)) → AreDescending (p ∷ ps) → p ≡ q → ((x : List ℕ) → IsIn x (p ∷ ps) → IsIn x (q ∷ qs)) → (x : List ℕ) → IsIn x ps → IsIn x qs
rest_in p q ps qs d e h x i = by (in_cases (h x (there i)))
  where
    by : (q ≡ x) ⊎ IsIn x qs → IsIn x qs
    by (inl f) = absurd (never_lower p (subst (λ (y : List ℕ). IsLower y p) (sym f ∙ sym e) (d.0 x i)))
    by (inr j) = j

same_lists : (ps qs : List (List ℕ)) → AreDescending ps → AreDescending qs → ((x : List ℕ) → IsIn x ps → IsIn x qs) → ((x : List ℕ) → IsIn x qs → IsIn x ps) → ps ≡ qs
same_lists [] [] d f to from = refl
same_lists [] (q ∷ qs) d f to from = let i = from q here in elim i [ ]
same_lists (p ∷ ps) [] d f to from = let i = to p here in elim i [ ]
same_lists (p ∷ ps) (q ∷ qs) d f to from =
    let e = same_first p q ps qs d f (in_cases (to p here)) (in_cases (from q here)) in
    ap₂ ◌∷◌ e (same_lists ps qs d.1 f.1 (rest_in p q ps qs d e to) (rest_in q p qs ps f (sym e) from))

-- ---- the partitions are determined

collapse_at : (k : Skeleton) (p : List ℕ) {ps : List (List ℕ)} {ls : List Skeleton} → AreCollapsesBy k ps ls → IsIn p ps → (l : Skeleton) × IsCollapse k p l
collapse_at k p no_collapses i = elim i [ ]
collapse_at k p (collapse_by {l = l} c cs) here = (l, c)
collapse_at k p (collapse_by c cs) (there i) = collapse_at k p cs i

among_too : (k : Skeleton) (ls ms : List Skeleton) (a : AreCollapses k ls) (b : AreCollapses k ms) → (p : List ℕ) → IsIn p a.partitions → IsIn p b.partitions
among_too k ls ms a b p i = by (collapse_at k p a.each i)
  where
    by : (l : Skeleton) × IsCollapse k p l → IsIn p b.partitions
    by c = elim (b.all p c.1.partition c.1.not_finest) [ inl listed ↦ listed | inr never ↦ absurd (collapse_is_possible k c.0 p c.1 never) ]

pub partitions_determined : (k : Skeleton) (ls ms : List Skeleton) (a : AreCollapses k ls) (b : AreCollapses k ms) → a.partitions ≡ b.partitions
partitions_determined k ls ms a b = same_lists a.partitions b.partitions a.descending b.descending (among_too k ls ms a b) (among_too k ms ls b a)
