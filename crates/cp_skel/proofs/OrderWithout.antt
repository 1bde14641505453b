-- The order of a skeleton without one of its strands is that of the others.
use Rattle.std.proofs.Common.{◌≡◌, ◌≢◌, ◌↔◌, ◌⊎◌, inl, inr, ℕ, suc, ◌≤◌, List, Some, refl, sym, ap, ◌∙◌, subst, arith}
use Rattle.std.specs.List.{remove}
use Rattle.std.proofs.lemmas.Bool.{cases_lt, cases_eq}
use Rattle.cp_lists.specs.Lists.{IsIn, one_step, more_steps}
use Rattle.cp_model.specs.Bundle.{node_at}
use Rattle.cp_model.specs.declared.node.Node.{Node}
use Rattle.cp_model.specs.Term.{Term}
use Rattle.cp_model.specs.declared.strand.Event.TheVariants.{Send as send, Receive as recv}
use Rattle.cp_model.specs.Skeleton.{term_event_at, IsNodeOf, Skeleton, OrderStep, along_strand_of, along_pair, Before, IsOrderPair}
use Rattle.cp_model.specs.declared.node.OrderPair.{OrderPair}
use Rattle.cp_model.specs.Order.{IsAtOrAfter, ReachesAlong, on_strand, over_pair}
use Rattle.cp_lists.proofs.Members.{in_append, in_append_left, in_append_right}
use Rattle.cp_lists.proofs.Reached.{steps_append}
use Rattle.cp_model.proofs.LawOrder.{before_leads, leads_before}
use Rattle.cp_order.specs.Closed.{KeepsOrder}
use Rattle.cp_skel.specs.Ordered.{IsOrdered, ordered_by}
use Rattle.cp_skel.specs.Deletion.{node_renumbered, renumbered, pair_renumbered, IsPairOn, KeepsOrderOfOthers}
use Rattle.cp_skel.specs.Bridges.{bridge, bridges, IsWithoutStrand}
use Rattle.cp_skel.proofs.NumbersWithout.{node_restored, node_again, renumbered_apart, event_without, event_kept}
use Rattle.cp_model.proofs.BoundedSearch.{after_leads}
use Rattle.cp_skel.proofs.OrderKept.{kept_ordered, kept_before}
use Rattle.cp_skel.proofs.PairsWithout.{in_left, was_left, in_bridges, of_bridges, IsBridge, WasLeft, through_says, says_through}

-- The last node of a way is there.
pub way_ends : (k : Skeleton) (x y : Node) → ((p : OrderPair) → IsIn p k.pairs → IsOrderPair k p) → Before k x y → IsNodeOf k.strands y
way_ends k x y h (one_step (along_strand_of {e = e} p)) = (e, p)
way_ends k x y h (one_step (along_pair {p = p} m)) = (recv (h p m).received, (h p m).reception)
way_ends k x y h (more_steps {y = z} s r) = way_ends k z y h r

module _ (old new : Skeleton) (d : ℕ) (strands : new.strands ≡ remove old.strands d) (pairs : IsWithoutStrand d old.pairs new.pairs) (ordered : IsOrdered old) where
  event_here : (n : Node) → n.strand ≢ d → term_event_at new.strands (node_renumbered d n) ≡ term_event_at old.strands n
  event_here n h = ap (λ ss. term_event_at ss (node_renumbered d n)) strands ∙ event_kept old.strands d n h

  event_was : (n : Node) → term_event_at new.strands n ≡ term_event_at old.strands (node_restored d n)
  event_was n = ap (λ ss. term_event_at ss n) strands ∙ event_without old.strands d n

  -- ---- pairs

  left_in : (p : OrderPair) → IsIn p old.pairs → p.earlier.strand ≢ d → p.later.strand ≢ d → IsIn (pair_renumbered d p) new.pairs
  left_in p m e l =
      subst (IsIn (pair_renumbered d p)) (sym pairs.all)
      (in_append_left (bridges d old.pairs old.pairs) (in_left (IsPairOn d) (pair_renumbered d) old.pairs pairs.left p pairs.leaves_out m (λ on. elim on [ inl h ↦ e h | inr h ↦ l h ])))

  bridge_in : (p q : OrderPair) → IsIn p old.pairs → IsIn q old.pairs → p.later.strand ≡ d → q.earlier.strand ≡ d → p.later.index ≤ q.earlier.index → p.earlier.strand ≢ q.later.strand →
      IsIn (bridge d p q) new.pairs
  bridge_in p q m n e l i h =
      subst (IsIn (bridge d p q)) (sym pairs.all)
      (in_append_right pairs.left (in_bridges d p q old.pairs old.pairs m n (says_through d p q (record { into = e; out = l; onward = i; apart = h }))))

  pair_was : (r : OrderPair) → IsIn r new.pairs → WasLeft (IsPairOn d) (pair_renumbered d) old.pairs r ⊎ IsBridge d old.pairs old.pairs r
  pair_was r m = elim (in_append pairs.left (bridges d old.pairs old.pairs) (subst (IsIn r) pairs.all m)) as (λ _. WasLeft (IsPairOn d) (pair_renumbered d) old.pairs r ⊎ IsBridge d old.pairs old.pairs r) [
    | inl h ↦ inl (was_left (IsPairOn d) (pair_renumbered d) old.pairs pairs.left r pairs.leaves_out h)
    | inr h ↦ inr (of_bridges d old.pairs old.pairs r h)
  ]

  later_off : (q : OrderPair) → IsIn q old.pairs → q.earlier.strand ≡ d → q.later.strand ≢ d
  later_off q m e h = (ordered.order_pairs q m).between_strands (e ∙ sym h)

  earlier_off : (p : OrderPair) → IsIn p old.pairs → p.later.strand ≡ d → p.earlier.strand ≢ d
  earlier_off p m e h = (ordered.order_pairs p m).between_strands (h ∙ sym e)

  -- ---- from old to new

  through_leads : (p q : OrderPair) → IsIn p old.pairs → IsIn q old.pairs → IsAtOrAfter p.later q.earlier → ReachesAlong old.pairs p.earlier q.later
  through_leads p q m n a = over_pair m (refl, omega arith) (over_pair n a (on_strand (refl, omega arith)))

  node_later : (q : OrderPair) → IsIn q old.pairs → IsNodeOf old.strands q.later
  node_later q m = (recv (ordered.order_pairs q m).received, (ordered.order_pairs q m).reception)

  node_earlier : (q : OrderPair) → IsIn q old.pairs → IsNodeOf old.strands q.earlier
  node_earlier q m = (send (ordered.order_pairs q m).sent, (ordered.order_pairs q m).transmission)

  before_of : (x y : Node) → (x ≡ y → ⊥) → (x ≡ y) ⊎ Before old x y → Before old x y
  before_of x y h (inl e) = absurd (h e)
  before_of x y h (inr b) = b

  -- Where two pairs lead through the strand to the strand where they began, they lead onward.
  leads_onward : (p q : OrderPair) → IsIn p old.pairs → IsIn q old.pairs → IsAtOrAfter p.later q.earlier → p.earlier.strand ≡ q.later.strand → IsAtOrAfter p.earlier q.later
  leads_onward p q m n a e = elim (cases_lt q.later.index p.earlier.index) as (λ _. IsAtOrAfter p.earlier q.later) [
    | inl less ↦
        let other : q.later ≡ p.earlier → ⊥ = λ h. let i : q.later.index ≡ p.earlier.index = ap (λ x. x.index) h in omega arith in
        let back : Before old q.later p.earlier =
        before_of q.later p.earlier other (leads_before old ordered.order_pairs q.later p.earlier (node_earlier p m) (on_strand (sym e, omega arith))) in
        let on : Before old p.earlier q.later =
        before_of p.earlier q.later (λ h. other (sym h)) (leads_before old ordered.order_pairs p.earlier q.later (node_later q n) (through_leads p q m n a)) in
        absurd (ordered.no_cycle p.earlier (steps_append on back))
    | inr more ↦ (e, more)
  ]

  -- What leads on from a node, or from the strand's node to which a pair leads.
  abbrev Goes : Node → Node → Type 0
  Goes z y = (z.strand ≢ d → ReachesAlong new.pairs (node_renumbered d z) (node_renumbered d y))
      × (z.strand ≡ d → (p : OrderPair) → IsIn p old.pairs → p.later.strand ≡ d → p.later.index ≤ z.index → ReachesAlong new.pairs (node_renumbered d p.earlier) (node_renumbered d y))

  step_off : (z y : Node) (q : OrderPair) → IsIn q old.pairs → IsAtOrAfter z q.earlier → z.strand ≢ d → Goes q.later y → ReachesAlong new.pairs (node_renumbered d z) (node_renumbered d y)
  step_off z y q m a off rest =
      let there : IsAtOrAfter (node_renumbered d z) (node_renumbered d q.earlier) = (ap (renumbered d) a.0, a.1) in
      elim (cases_eq q.later.strand d) as (λ _. ReachesAlong new.pairs (node_renumbered d z) (node_renumbered d y)) [
        | inl on ↦ after_leads new.pairs (node_renumbered d z) (node_renumbered d q.earlier) (node_renumbered d y) there (rest.1 on q m on (omega arith))
        | inr other ↦ over_pair (left_in q m (λ e. off (a.0 ∙ e)) other) there (rest.0 other)
      ]

  step_on : (z y : Node) (p q : OrderPair) → IsIn q old.pairs → IsAtOrAfter z q.earlier → z.strand ≡ d → IsIn p old.pairs → p.later.strand ≡ d → p.later.index ≤ z.index → Goes q.later y →
      ReachesAlong new.pairs (node_renumbered d p.earlier) (node_renumbered d y)
  step_on z y p q n a on m e l rest =
      let out : q.earlier.strand ≡ d = sym a.0 ∙ on in
      let along : p.later.index ≤ q.earlier.index = omega (arith, a.1) in
      let rest_leads : ReachesAlong new.pairs (node_renumbered d q.later) (node_renumbered d y) = rest.0 (later_off q n out) in
      elim (cases_eq p.earlier.strand q.later.strand) as (λ _. ReachesAlong new.pairs (node_renumbered d p.earlier) (node_renumbered d y)) [
        | inl same ↦
            let o = leads_onward p q m n (e ∙ sym out, along) same in
            after_leads new.pairs (node_renumbered d p.earlier) (node_renumbered d q.later) (node_renumbered d y) (ap (renumbered d) o.0, o.1) rest_leads
        | inr other ↦ over_pair (bridge_in p q m n e out along other) (refl, omega arith) rest_leads
      ]

  goes : (z y : Node) → y.strand ≢ d → ReachesAlong old.pairs z y → Goes z y
  goes z y h (on_strand a) = (λ off. on_strand (ap (renumbered d) a.0, a.1), λ on p m e l. absurd (h (sym a.0 ∙ on)))
  goes z y h (over_pair {p = q} m a l) =
      let rest : Goes q.later y = goes q.later y h l in
      (λ off. step_off z y q m a off rest, λ on p n e i. step_on z y p q m a on n e i rest)

  -- ---- from new to old

  again : (x y : Node) → x.strand ≢ d → y.strand ≢ d → Before old x y → Before old (node_restored d (node_renumbered d x)) (node_restored d (node_renumbered d y))
  again x y hx hy b =
      subst (λ z. Before old z (node_restored d (node_renumbered d y))) (sym (node_again d x hx))
      (subst (λ z. Before old x z) (sym (node_again d y hy)) b)

  -- The way along a pair of the new order.
  along_was : (r : OrderPair) → IsIn r new.pairs → Before old (node_restored d r.earlier) (node_restored d r.later)
  along_was r m = elim (pair_was r m) as (λ _. Before old (node_restored d r.earlier) (node_restored d r.later)) [
    | inl w ↦
        subst (λ (q : OrderPair). Before old (node_restored d q.earlier) (node_restored d q.later)) (sym w.same)
        (again w.item.earlier w.item.later (λ e. w.not_gone (inl e)) (λ e. w.not_gone (inr e)) (one_step (along_pair w.listed)))
    | inr b ↦
        let t = through_says d b.into b.out b.through in
        let other : b.into.earlier ≡ b.out.later → ⊥ = λ e. t.apart (ap (λ n. n.strand) e) in
        subst (λ (q : OrderPair). Before old (node_restored d q.earlier) (node_restored d q.later)) (sym b.same)
        (again b.into.earlier b.out.later (earlier_off b.into b.into_listed t.into) (later_off b.out b.out_listed t.out)
        (before_of b.into.earlier b.out.later other
        (leads_before old ordered.order_pairs b.into.earlier b.out.later (node_later b.out b.out_listed)
        (through_leads b.into b.out b.into_listed b.out_listed (t.into ∙ sym t.out, t.onward)))))
  ]

  step_was : (x y : Node) → OrderStep new x y → Before old (node_restored d x) (node_restored d y)
  step_was x y (along_strand_of {s} {i} {e} p) = one_step (along_strand_of {e = e} (sym (event_was (node_at s (suc i))) ∙ p))
  step_was x y (along_pair {p = r} m) = along_was r m

  way_was : (x y : Node) → Before new x y → Before old (node_restored d x) (node_restored d y)
  way_was x y (one_step s) = step_was x y s
  way_was x y (more_steps {y = z} s r) = steps_append (step_was x z s) (way_was z y r)

  -- ---- the new skeleton is ordered

  pair_kept : (e l : Node) (sent received : Term) → e.strand ≢ d → l.strand ≢ d → term_event_at old.strands e ≡ Some (send sent) → term_event_at old.strands l ≡ Some (recv received) → e.strand ≢ l.strand →
      IsOrderPair new (record { earlier = node_renumbered d e; later = node_renumbered d l })
  pair_kept e l sent received he hl s r apart = record {
    sent = sent;
    received = received;
    transmission = event_here e he ∙ s;
    reception = event_here l hl ∙ r;
    between_strands = renumbered_apart d e.strand l.strand he hl apart;
  }

  pairs_kept : (r : OrderPair) → IsIn r new.pairs → IsOrderPair new r
  pairs_kept r m = elim (pair_was r m) as (λ _. IsOrderPair new r) [
    | inl w ↦
        let o = ordered.order_pairs w.item w.listed in
        subst (IsOrderPair new) (sym w.same)
        (pair_kept w.item.earlier w.item.later o.sent o.received (λ e. w.not_gone (inl e)) (λ e. w.not_gone (inr e)) o.transmission o.reception o.between_strands)
    | inr b ↦
        let t = through_says d b.into b.out b.through in
        let o = ordered.order_pairs b.into b.into_listed in
        let p = ordered.order_pairs b.out b.out_listed in
        subst (IsOrderPair new) (sym b.same)
        (pair_kept b.into.earlier b.out.later o.sent p.received (earlier_off b.into b.into_listed t.into) (later_off b.out b.out_listed t.out) o.transmission p.reception t.apart)
  ]

  pub is_ordered : IsOrdered new
  is_ordered = record { order_pairs = pairs_kept; no_cycle = λ n b. ordered.no_cycle (node_restored d n) (way_was n n b) }

  -- ---- the order of the others

  there_before : (x y : Node) → x.strand ≢ d → y.strand ≢ d → Before new (node_renumbered d x) (node_renumbered d y) → Before old x y
  there_before x y hx hy b =
      subst (λ z. Before old z y) (node_again d x hx)
      (subst (λ z. Before old (node_restored d (node_renumbered d x)) z) (node_again d y hy) (way_was (node_renumbered d x) (node_renumbered d y) b))

  node_kept : (y : Node) → y.strand ≢ d → IsNodeOf old.strands y → IsNodeOf new.strands (node_renumbered d y)
  node_kept y h n = (n.0, event_here y h ∙ n.1)

  before_kept : (x y : Node) → x.strand ≢ d → y.strand ≢ d → Before old x y → Before new (node_renumbered d x) (node_renumbered d y)
  before_kept x y hx hy b = elim (leads_before new pairs_kept (node_renumbered d x) (node_renumbered d y) (node_kept y hy (way_ends old x y ordered.order_pairs b)) ((goes x y hy (before_leads old x y b)).0 hx))
      as (λ _. Before new (node_renumbered d x) (node_renumbered d y)) [
        | inl e ↦
            let same : x ≡ y = sym (node_again d x hx) ∙ ap (node_restored d) e ∙ node_again d y hy in
            absurd (ordered.no_cycle x (subst (Before old x) (sym same) b))
        | inr w ↦ w
      ]

  pub keeps_order : KeepsOrderOfOthers d old new
  keeps_order x y hx hy = (there_before x y hx hy, before_kept x y hx hy)

-- The same where other pairs order the nodes that are left as the pairs without the strand do.
module _ (old new : Skeleton) (d : ℕ) (pairs : List OrderPair) (strands : new.strands ≡ remove old.strands d) (without : IsWithoutStrand d old.pairs pairs) (keeps : KeepsOrder pairs new.pairs)
    (ordered : IsOrdered old) where
  abbrev between : Skeleton
  between = ordered_by new pairs

  between_ordered : IsOrdered between
  between_ordered = is_ordered old between d strands without ordered

  pub is_ordered_anew : IsOrdered new
  is_ordered_anew = kept_ordered between between_ordered new.pairs keeps

  pub keeps_order_anew : KeepsOrderOfOthers d old new
  keeps_order_anew x y hx hy =
      let kept : Before new (node_renumbered d x) (node_renumbered d y) ↔ Before between (node_renumbered d x) (node_renumbered d y) =
      kept_before between between_ordered new.pairs keeps (node_renumbered d x) (node_renumbered d y) in
      let others : Before between (node_renumbered d x) (node_renumbered d y) ↔ Before old x y = keeps_order old between d strands without ordered x y hx hy in
      (λ b. others.0 (kept.0 b), λ b. kept.1 (others.1 b))
