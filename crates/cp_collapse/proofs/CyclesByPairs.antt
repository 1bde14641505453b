-- The order of a skeleton has a cycle exactly where one of its pairs closes one.
use Rattle.std.proofs.Common.{◌≡◌, ◌⊎◌, inl, inr, ◌<◌, refl, sym, ap, ◌∙◌, subst, arith}
use Rattle.cp_lists.specs.Lists.{IsIn, one_step, more_steps}
use Rattle.cp_model.specs.declared.strand.Event.TheVariants.{Send as send}
use Rattle.cp_model.specs.declared.node.Node.{Node}
use Rattle.cp_model.specs.Skeleton.{Skeleton, OrderStep, along_strand_of, along_pair, Before, IsOrderPair}
use Rattle.cp_model.specs.declared.node.OrderPair.{OrderPair}
use Rattle.cp_model.specs.Order.{ReachesAlong, on_strand}
use Rattle.cp_lists.proofs.Reached.{steps_append}
use Rattle.cp_model.proofs.LawOrder.{before_leads, leads_before}
use Rattle.cp_collapse.specs.Property.{Has}
use Rattle.cp_collapse.specs.Cycles.{ClosesCycleAt}

module _ (l : Skeleton) where
  abbrev Reaches : Node → Node → Type 0
  Reaches x y = (x ≡ y) ⊎ Before l x y

  -- The way from x to y goes over a pair.
  record GoesOver (x y : Node) : Type 0 where
    pair : OrderPair
    listed : IsIn pair l.pairs
    from : Reaches x pair.earlier
    to : Reaches pair.later y

  -- y is behind x on its strand, or the way there goes over a pair.
  abbrev Goes : Node → Node → Type 0
  Goes x y = ((x.strand ≡ y.strand) × (x.index < y.index)) ⊎ GoesOver x y

  step_goes : {x y : Node} → OrderStep l x y → Goes x y
  step_goes (along_strand_of e) = inl (refl, omega arith)
  step_goes (along_pair {p = q} i) = inr (record { pair = q; listed = i; from = inl refl; to = inl refl })

  then_reaches : {x y z : Node} → Before l x y → Reaches y z → Reaches x z
  then_reaches {x = x} b (inl e) = inr (subst (Before l x) e b)
  then_reaches b (inr c) = inr (steps_append b c)

  reaches_then : {x y z : Node} → Reaches x y → Before l y z → Reaches x z
  reaches_then {z = z} (inl e) b = inr (subst (λ (w : Node). Before l w z) (sym e) b)
  reaches_then (inr a) b = inr (steps_append a b)

  goes_both : (x y z : Node) → OrderStep l x y → Before l y z → Goes x y → Goes y z → Goes x z
  goes_both x y z s b (inl a) (inl c) = let m = a.1 in let n = c.1 in inl (a.0 ∙ c.0, omega (arith, m, n))
  goes_both x y z s b (inl a) (inr o) = inr (record { pair = o.pair; listed = o.listed; from = then_reaches (one_step s) o.from; to = o.to })
  goes_both x y z s b (inr o) c = inr (record { pair = o.pair; listed = o.listed; from = o.from; to = reaches_then o.to b })

  goes : (x y : Node) → Before l x y → Goes x y
  goes x y (one_step s) = step_goes s
  goes x z (more_steps {y = y} s b) = goes_both x y z s b (step_goes s) (goes y z b)

  reaches_leads : (x y : Node) → Reaches x y → ReachesAlong l.pairs x y
  reaches_leads x y (inl e) = on_strand (ap (λ (n : Node). n.strand) e, let i = ap (λ (n : Node). n.index) e in omega (arith, i))
  reaches_leads x y (inr b) = before_leads l x y b

  reaches_both : {x y z : Node} → Reaches x y → Reaches y z → Reaches x z
  reaches_both {z = z} (inl e) r = subst (λ (w : Node). Reaches w z) (sym e) r
  reaches_both (inr a) r = then_reaches a r

  closed_at : (n : Node) → Goes n n → Has (λ q. ClosesCycleAt l.pairs q.earlier) l.pairs
  closed_at n (inl r) = absurd (let m = r.1 in omega (arith, m))
  closed_at n (inr o) = (o.pair, o.listed, (o.pair, o.listed, (refl, reaches_leads o.pair.later o.pair.earlier (reaches_both o.to o.from))))

  pub closed_of_cycle : (n : Node) → Before l n n → Has (λ q. ClosesCycleAt l.pairs q.earlier) l.pairs
  closed_of_cycle n b = closed_at n (goes n n b)

  module _ (order_pairs : (q : OrderPair) → IsIn q l.pairs → IsOrderPair l q) where
    pub cycle_of_closed : Has (λ q. ClosesCycleAt l.pairs q.earlier) l.pairs → (n : Node) × Before l n n
    cycle_of_closed h =
        let q = h.0 in
        let o = order_pairs q h.1 in
        let c : ClosesCycleAt l.pairs q.earlier = h.2 in
        let back = leads_before l order_pairs c.0.later q.earlier (send o.sent, o.transmission) c.2.1 in
        (q.earlier, subst (λ (m : Node). Before l m q.earlier) c.2.0 (closes c.0 c.1 q.earlier c.2.0 back))
      where
        closes : (r : OrderPair) → IsIn r l.pairs → (n : Node) → r.earlier ≡ n → (r.later ≡ n) ⊎ Before l r.later n → Before l r.earlier n
        closes r listed n e (inl f) = subst (Before l r.earlier) f (one_step (along_pair listed))
        closes r listed n e (inr b) = more_steps (along_pair listed) b
