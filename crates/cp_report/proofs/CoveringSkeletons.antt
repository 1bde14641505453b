-- What a report prints of the order of a skeleton fits, and generates the same order.
use Rattle.std.proofs.Common.{◌≡◌, ◌↔◌, ◌⊎◌, inl, inr, ℕ, zero, suc, ◌+◌, ◌≤◌, List, [], ◌∷◌, true, false, refl, sym, ap, ◌∙◌, subst, arith}
use Rattle.std.specs.Prelude.{Option, Some, None}
use Rattle.std.proofs.lemmas.Bool.{both_ways, eq-eqb}
use Rattle.cp_lists.specs.Lists.{item_at, IsIn, here, there, one_step, more_steps}
use Rattle.cp_lists.proofs.Items.{item_before}
use Rattle.cp_lists.proofs.Members.{in_append, in_append_left, in_append_right}
use Rattle.cp_lists.proofs.Reached.{steps_append}
use Rattle.cp_model.specs.Term.{Term}
use Rattle.cp_model.specs.declared.strand.Event.{Event}
use Rattle.cp_model.specs.declared.strand.Event.TheVariants.{Send as send, Receive as recv}
use Rattle.cp_model.specs.Bundle.{node_at}
use Rattle.cp_model.specs.declared.node.Node.{Node}
use Rattle.cp_model.specs.declared.node.OrderPair.{OrderPair}
use Rattle.cp_model.specs.Order.{ReachesAlong, on_strand, over_pair}
use Rattle.cp_model.specs.Skeleton.{SkeletonStrand, skeleton_trace, skeleton_trace_or_none, term_event_at, IsNodeOf, Skeleton, OrderStep, along_strand_of, along_pair, Before, IsOrderPair}
use Rattle.cp_model.proofs.LawOrder.{before_leads, leads_before}
use Rattle.cp_language.specs.Problems.{is_some_transmission, is_some_reception, on_one_strand, pairs_in}
use Rattle.cp_language.specs.Report.{nodes_on, nodes_from, covering_pairs}
use Rattle.cp_report.specs.Skeletons.{pairs_misfits}
use Rattle.cp_report.proofs.CoveringOrder.{IsAntisymmetric, IsClosedBack, covers_lead, lead_back, covering_leads, covering_apart, covering_listed}
use Rattle.cp_report.proofs.CoveringPairs.{AreApart, apart_append, covers_from, forms_from, cover_is, from_listed, from_apart, pairs_back, Goes, pairs_fit}

-- ---- the nodes of strands

on_is : (s i : ℕ) (es : List (Event Term)) (n : Node) → IsIn n (nodes_on s i es) → (j : ℕ) × (n ≡ node_at s (i + j)) × (e : Event Term) × (item_at es j ≡ Some e)
on_is s i [] n m = elim m [ ]
on_is s i (e ∷ es) n here = let z : i ≡ i + 0 = omega arith in (0, ap (λ (k : ℕ). node_at s k) z, e, refl)
on_is s i (e ∷ es) n (there m) =
    let r = on_is s (suc i) es n m in
    let j : ℕ = r.0 in
    let z : suc i + j ≡ i + suc j = omega arith in
    (suc j, r.1 ∙ ap (λ (k : ℕ). node_at s k) z, r.2, r.3)

on_there : (s i : ℕ) (es : List (Event Term)) (j : ℕ) (e : Event Term) → item_at es j ≡ Some e → IsIn (node_at s (i + j)) (nodes_on s i es)
on_there s i [] j e h = absurd (cc)
on_there s i (x ∷ es) zero e h = let z : i ≡ i + 0 = omega arith in subst (λ (k : ℕ). IsIn (node_at s k) (nodes_on s i (x ∷ es))) z here
on_there s i (x ∷ es) (suc j) e h =
    let z : suc i + j ≡ i + suc j = omega arith in
    subst (λ (k : ℕ). IsIn (node_at s k) (nodes_on s i (x ∷ es))) z (there (on_there s (suc i) es j e h))

on_apart : (s i : ℕ) (es : List (Event Term)) → AreApart (nodes_on s i es)
on_apart s i [] = tt
on_apart s i (e ∷ es) = (fresh, on_apart s (suc i) es)
  where
    fresh : IsIn (node_at s i) (nodes_on s (suc i) es) → ⊥
    fresh m =
        let r = on_is s (suc i) es (node_at s i) m in
        let j : ℕ = r.0 in
        let same : i ≡ suc i + j = ap (λ (o : Node). o.index) r.1 in
        absurd (omega arith)

-- The event of a node of strand number t.
abbrev EventOn : List SkeletonStrand → ℕ → ℕ → Type 0
EventOn ks t i = (e : Event Term) × (item_at (skeleton_trace_or_none (item_at ks t)) i ≡ Some e)

from_is : (s : ℕ) (ks : List SkeletonStrand) (n : Node) → IsIn n (nodes_from s ks) → (t : ℕ) × (n.strand ≡ s + t) × EventOn ks t n.index
from_is s [] n m = elim m [ ]
from_is s (k ∷ ks) n m = by (in_append (nodes_on s 0 (skeleton_trace k)) (nodes_from (suc s) ks) m) (from_is (suc s) ks n)
  where
    by : IsIn n (nodes_on s 0 (skeleton_trace k)) ⊎ IsIn n (nodes_from (suc s) ks) → (IsIn n (nodes_from (suc s) ks) → (t : ℕ) × (n.strand ≡ suc s + t) × EventOn ks t n.index)
        → (t : ℕ) × (n.strand ≡ s + t) × EventOn (k ∷ ks) t n.index
    by (inl i) rest =
        let r = on_is s 0 (skeleton_trace k) n i in
        let j : ℕ = r.0 in
        let z : s ≡ s + 0 = omega arith in
        let index : j ≡ n.index = sym (ap (λ (o : Node). o.index) r.1 ∙ omega arith) in
        (0, ap (λ (o : Node). o.strand) r.1 ∙ z, (r.2, subst (λ (l : ℕ). item_at (skeleton_trace k) l ≡ Some r.2) index r.3))
    by (inr i) rest =
        let r = rest i in
        let t : ℕ = r.0 in
        let z : suc s + t ≡ s + suc t = omega arith in
        (suc t, r.1 ∙ z, r.2)

from_there : (s : ℕ) (ks : List SkeletonStrand) (t i : ℕ) (e : Event Term) → item_at (skeleton_trace_or_none (item_at ks t)) i ≡ Some e → IsIn (node_at (s + t) i) (nodes_from s ks)
from_there s [] t i e h = absurd (cc)
from_there s (k ∷ ks) zero i e h =
    let z : s ≡ s + 0 = omega arith in
    let w : 0 + i ≡ i = omega arith in
    subst (λ (u : ℕ). IsIn (node_at u i) (nodes_from s (k ∷ ks))) z
    (in_append_left (nodes_from (suc s) ks) (subst (λ (l : ℕ). IsIn (node_at s l) (nodes_on s 0 (skeleton_trace k))) w (on_there s 0 (skeleton_trace k) i e h)))
from_there s (k ∷ ks) (suc t) i e h =
    let z : suc s + t ≡ s + suc t = omega arith in
    subst (λ (u : ℕ). IsIn (node_at u i) (nodes_from s (k ∷ ks))) z (in_append_right (nodes_on s 0 (skeleton_trace k)) (from_there (suc s) ks t i e h))

pub nodes_apart : (s : ℕ) (ks : List SkeletonStrand) → AreApart (nodes_from s ks)
nodes_apart s [] = tt
nodes_apart s (k ∷ ks) = apart_append (nodes_on s 0 (skeleton_trace k)) (nodes_from (suc s) ks) (on_apart s 0 (skeleton_trace k)) (nodes_apart (suc s) ks) other
  where
    other : (n : Node) → IsIn n (nodes_on s 0 (skeleton_trace k)) → IsIn n (nodes_from (suc s) ks) → ⊥
    other n i j =
        let a = on_is s 0 (skeleton_trace k) n i in
        let b = from_is (suc s) ks n j in
        let t : ℕ = b.0 in
        let first : n.strand ≡ s = ap (λ (o : Node). o.strand) a.1 in
        let second : n.strand ≡ suc s + t = b.1 in
        absurd (omega arith)

pub node_listed : (ks : List SkeletonStrand) (n : Node) → IsNodeOf ks n → IsIn n (nodes_from 0 ks)
node_listed ks n h =
    let z : 0 + n.strand ≡ n.strand = omega arith in
    subst (λ (u : ℕ). IsIn (node_at u n.index) (nodes_from 0 ks)) z (from_there 0 ks n.strand n.index h.0 h.1)

pub listed_node : (ks : List SkeletonStrand) (n : Node) → IsIn n (nodes_from 0 ks) → IsNodeOf ks n
listed_node ks n m =
    let r = from_is 0 ks n m in
    let t : ℕ = r.0 in
    let z : t ≡ n.strand = sym (r.1 ∙ omega arith) in
    subst (λ (u : ℕ). EventOn ks u n.index) z r.2

-- ---- events of the same kind

-- Both nodes are transmissions, or receptions, or are not there.
abbrev pub IsSameKind : Option (Event Term) → Option (Event Term) → Type 0
IsSameKind None None = Unit {0}
IsSameKind (Some (send a)) (Some (send b)) = Unit {0}
IsSameKind (Some (recv a)) (Some (recv b)) = Unit {0}
IsSameKind None (Some e) = ⊥
IsSameKind (Some e) None = ⊥
IsSameKind (Some (send a)) (Some (recv b)) = ⊥
IsSameKind (Some (recv a)) (Some (send b)) = ⊥

same_tests : (o u : Option (Event Term)) → IsSameKind o u → (is_some_transmission o ≡ is_some_transmission u) × (is_some_reception o ≡ is_some_reception u)
same_tests None None h = (refl, refl)
same_tests (Some (send a)) (Some (send b)) h = (refl, refl)
same_tests (Some (recv a)) (Some (recv b)) h = (refl, refl)
same_tests None (Some e) h = absurd h
same_tests (Some (send a)) None h = absurd h
same_tests (Some (recv a)) None h = absurd h
same_tests (Some (send a)) (Some (recv b)) h = absurd h
same_tests (Some (recv a)) (Some (send b)) h = absurd h

sent_too : (o u : Option (Event Term)) (a : Term) → IsSameKind o u → o ≡ Some (send a) → is_some_transmission u ≡ true
sent_too o u a h e = sym (same_tests o u h).0 ∙ ap is_some_transmission e

received_too : (o u : Option (Event Term)) (a : Term) → IsSameKind o u → o ≡ Some (recv a) → is_some_reception u ≡ true
received_too o u a h e = sym (same_tests o u h).1 ∙ ap is_some_reception e

pub there_too : (o u : Option (Event Term)) → IsSameKind o u → (e : Event Term) × (o ≡ Some e) → (e : Event Term) × (u ≡ Some e)
there_too None u h e = absurd (cc)
there_too (Some (send a)) None h e = absurd h
there_too (Some (recv a)) None h e = absurd h
there_too (Some x) (Some y) h e = (y, refl)

there_back : (o u : Option (Event Term)) → IsSameKind o u → (e : Event Term) × (u ≡ Some e) → (e : Event Term) × (o ≡ Some e)
there_back None None h e = absurd (cc)
there_back None (Some y) h e = absurd h
there_back (Some x) u h e = (x, refl)

sent_term : (o : Option (Event Term)) → is_some_transmission o ≡ true → (t : Term) × (o ≡ Some (send t))
sent_term None e = absurd (cc)
sent_term (Some (send t)) e = (t, refl)
sent_term (Some (recv t)) e = absurd (cc)

received_term : (o : Option (Event Term)) → is_some_reception o ≡ true → (t : Term) × (o ≡ Some (recv t))
received_term None e = absurd (cc)
received_term (Some (recv t)) e = (t, refl)
received_term (Some (send t)) e = absurd (cc)

-- ---- the order of a skeleton

-- The covering pairs of a skeleton.
abbrev pub covers_of : Skeleton → List OrderPair
covers_of k = covers_from k.pairs (nodes_from 0 k.strands) (nodes_from 0 k.strands)

module _ (k : Skeleton) (order_pairs : (p : OrderPair) → IsIn p k.pairs → IsOrderPair k p) (no_cycle : (n : Node) → Before k n n → ⊥) where
  abbrev nodes : List Node
  nodes = nodes_from 0 k.strands

  antisymmetric : IsAntisymmetric k.pairs nodes
  antisymmetric x y i j l r = by (leads_before k order_pairs x y (listed_node k.strands y j) l) (leads_before k order_pairs y x (listed_node k.strands x i) r)
    where
      by : (x ≡ y) ⊎ Before k x y → (y ≡ x) ⊎ Before k y x → x ≡ y
      by (inl e) b = e
      by (inr a) (inl e) = sym e
      by (inr a) (inr b) = absurd (no_cycle x (steps_append a b))

  -- a node at or before one that is there is there
  node_before : (x y : Node) → x.strand ≡ y.strand → x.index ≤ y.index → IsNodeOf k.strands y → IsNodeOf k.strands x
  node_before x y e l n =
      let r = item_before (skeleton_trace_or_none (item_at k.strands y.strand)) x.index y.index n.0 n.1 l in
      subst (λ (s : ℕ). EventOn k.strands s x.index) (sym e) r

  closed : IsClosedBack k.pairs nodes
  closed x y (on_strand a) m = node_listed k.strands x (node_before x y a.0 a.1 (listed_node k.strands y m))
  closed x y (over_pair {p} i a l) m =
      node_listed k.strands x (node_before x p.earlier a.0 a.1 (send (order_pairs p i).sent, (order_pairs p i).transmission))

  between : (p : OrderPair) → IsIn p k.pairs → p.earlier.strand ≡ p.later.strand → ⊥
  between p i e = absurd ((order_pairs p i).between_strands e)

  -- each covering pair is one of the pairs
  pub cover_in : (p : OrderPair) → IsIn p (covers_of k) → IsIn p k.pairs
  cover_in p i =
      let c = cover_is k.pairs nodes nodes p i in
      covering_listed k.pairs nodes antisymmetric closed between p.earlier p.later c.later c.covering

  cover_goes : (p : OrderPair) → IsIn p (covers_of k) → ReachesAlong k.pairs p.earlier p.later
  cover_goes p i = covering_leads k.pairs nodes antisymmetric closed p.earlier p.later (cover_is k.pairs nodes nodes p i).covering

  cover_other : (p : OrderPair) → IsIn p (covers_of k) → on_one_strand p ≡ false
  cover_other p i = covering_apart k.pairs nodes antisymmetric closed p.earlier p.later (cover_is k.pairs nodes nodes p i).covering

  -- What is printed of the order is read back as the covering pairs.
  pub covers_back : pairs_in (covering_pairs k) ≡ covers_of k
  covers_back = ap pairs_in (forms_from k.pairs nodes nodes) ∙ pairs_back (covers_of k) cover_other

  no_way_back : (p : OrderPair) → IsIn p (covers_of k) → ReachesAlong (covers_of k) p.later p.earlier → ⊥
  no_way_back p i l =
      let c = cover_is k.pairs nodes nodes p i in
      let back = lead_back k.pairs nodes antisymmetric closed (covers_of k) cover_goes p.later p.earlier l in
      let same = antisymmetric p.earlier p.later c.earlier c.later (cover_goes p i) back in
      both_ways (on_one_strand p) (cover_other p i) (eq-eqb p.earlier.strand p.later.strand (ap (λ (o : Node). o.strand) same))

  module _ (strands : List SkeletonStrand) (kinds : (n : Node) → IsSameKind (term_event_at k.strands n) (term_event_at strands n)) where
    cover_fits : (p : OrderPair) → IsIn p (covers_of k) → Goes strands p
    cover_fits p i =
        let o = order_pairs p (cover_in p i) in
        record {
          sent = sent_too (term_event_at k.strands p.earlier) (term_event_at strands p.earlier) o.sent (kinds p.earlier) o.transmission;
          received = received_too (term_event_at k.strands p.later) (term_event_at strands p.later) o.received (kinds p.later) o.reception;
          other = cover_other p i;
        }

    -- What is printed of the order fits strands with events of the same kinds.
    pub covers_fit : pairs_misfits strands [] (covering_pairs k) ≡ []
    covers_fit =
        ap (pairs_misfits strands []) (forms_from k.pairs nodes nodes)
        ∙ pairs_fit strands (covers_of k) no_way_back (from_apart k.pairs nodes nodes (nodes_apart 0 k.strands) (nodes_apart 0 k.strands)) cover_fits

    module _ (m : Skeleton) (same_strands : m.strands ≡ strands) (same_pairs : m.pairs ≡ covers_of k) where
      kind_of : (n : Node) → IsSameKind (term_event_at k.strands n) (term_event_at m.strands n)
      kind_of n = subst (λ (ss : List SkeletonStrand). IsSameKind (term_event_at k.strands n) (term_event_at ss n)) (sym same_strands) (kinds n)

      cover_at : (p : OrderPair) → IsIn p m.pairs → IsIn p (covers_of k)
      cover_at p i = subst (λ (ps : List OrderPair). IsIn p ps) same_pairs i

      cover_pairs : (p : OrderPair) → IsIn p m.pairs → IsOrderPair m p
      cover_pairs p i =
          let g = cover_fits p (cover_at p i) in
          let s = sent_term (term_event_at strands p.earlier) g.sent in
          let r = received_term (term_event_at strands p.later) g.received in
          record {
            sent = s.0;
            received = r.0;
            transmission = ap (λ (ss : List SkeletonStrand). term_event_at ss p.earlier) same_strands ∙ s.1;
            reception = ap (λ (ss : List SkeletonStrand). term_event_at ss p.later) same_strands ∙ r.1;
            between_strands = λ e. both_ways (on_one_strand p) g.other (eq-eqb p.earlier.strand p.later.strand e);
          }

      step_node : (x y : Node) → OrderStep k x y → IsNodeOf k.strands y
      step_node x y (along_strand_of {e = e} h) = (e, h)
      step_node x y (along_pair {p = p} i) = (recv (order_pairs p i).received, (order_pairs p i).reception)

      pub last_node : (x y : Node) → Before k x y → IsNodeOf k.strands y
      last_node x y (one_step s) = step_node x y s
      last_node x z (more_steps {y = y} s b) = last_node y z b

      forth : (x y : Node) → Before k x y → Before m x y
      forth x y b = by (leads_before m cover_pairs x y (there_too (term_event_at k.strands y) (term_event_at m.strands y) (kind_of y) n) (subst (λ (ps : List OrderPair). ReachesAlong ps x y) (sym same_pairs) way))
        where
          n : IsNodeOf k.strands y
          n = last_node x y b

          way : ReachesAlong (covers_of k) x y
          way = covers_lead k.pairs nodes antisymmetric closed (covers_of k) (λ a c i j h. from_listed k.pairs nodes nodes a c i j h) x y (before_leads k x y b) (node_listed k.strands y n)

          by : (x ≡ y) ⊎ Before m x y → Before m x y
          by (inl e) = absurd (no_cycle x (subst (Before k x) (sym e) b))
          by (inr c) = c

      step_back : (x y : Node) → OrderStep m x y → Before k x y
      step_back x y (along_strand_of {s = s} {i = i} {e = e} h) =
          let r = there_back (term_event_at k.strands (node_at s (suc i))) (term_event_at m.strands (node_at s (suc i))) (kind_of (node_at s (suc i))) (e, h) in
          one_step (along_strand_of r.1)
      step_back x y (along_pair {p = p} i) = one_step (along_pair (cover_in p (cover_at p i)))

      back : (x y : Node) → Before m x y → Before k x y
      back x y (one_step s) = step_back x y s
      back x z (more_steps {y = y} s b) = steps_append (step_back x y s) (back y z b)

      -- The covering pairs generate the same order.
      pub same_order : (x y : Node) → Before k x y ↔ Before m x y
      same_order x y = (forth x y, back x y)
