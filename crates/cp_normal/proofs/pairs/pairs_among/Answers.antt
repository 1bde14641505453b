use Rattle.std.proofs.Common.{refl, ap, sym, subst, ◌∙◌}
use Rattle.std.specs.Prelude.{IfSome, IfNone}
use Rattle.cp_model.specs.Skeleton.{Assumptions, Skeleton}
use Rattle.cp_model.specs.declared.node.OrderPair.{OrderPair}
use Rattle.cp_collapse.specs.Property.{Has}
use Rattle.cp_normal.specs.Events.{IsPairBetween}
use Rattle.cp_normal.proofs.Found.{added_exactly}
use Rattle.cp_normal.proofs.ListLoops.{step, end, puts_one, puts_none}
use Rattle.cp_normal.proofs.pairs.pairs_among.Goals as goal

pub loop-unique-preserved : goal.loop-unique-preserved
loop-unique-preserved c =
    let o = c.occurrence-item.result in
    let u = c.unique-item.result in
    let uniques = c.uniquely_originating-uniques.result.now in
    let some = subst (λ r. IfSome r (λ q. IsPairBetween o u q)) c.in-Some.is c.pair_between.ensures.some in
    step (λ u p. IsPairBetween o u p) uniques _ _ _ _ u c.loop-unique-test.true c.unique-item.is
    (puts_one (λ u p. IsPairBetween o u p) uniques u _ _ _ some (λ p h. sym (h.4 ∙ sym some.4)) c.in_ok-push-in-Some.ensures.items)
    c.loop-unique.invariant

pub loop-unique-preserved-in-None : goal.loop-unique-preserved-in-None
loop-unique-preserved-in-None c =
    let o = c.occurrence-item.result in
    let u = c.unique-item.result in
    let uniques = c.uniquely_originating-uniques.result.now in
    step (λ u p. IsPairBetween o u p) uniques _ _ _ _ u c.loop-unique-test.true c.unique-item.is
    (puts_none (λ u p. IsPairBetween o u p) uniques u _ _ refl (subst (λ r. IfNone r ((p : OrderPair) → IsPairBetween o u p → ⊥)) c.in-None.is c.pair_between.ensures.none))
    c.loop-unique.invariant

pub loop-occurrence-preserved : goal.loop-occurrence-preserved
loop-occurrence-preserved c =
    let uniques = c.uniquely_originating-uniques.result.now in
    step (λ o p. Has (λ u. IsPairBetween o u p) uniques) c.events-occurrences.result.now _ _ _ _ _ c.loop-occurrence-test.true c.occurrence-item.is
    (end (λ u p. IsPairBetween c.occurrence-item.result u p) uniques _ _ _ c.loop-unique-test.false c.loop-unique.invariant)
    c.loop-occurrence.invariant

pub returns : goal.returns
returns c =
    let uniques = c.uniquely_originating-uniques.result.now in
    added_exactly c.args.k.now _ _ c.events-occurrences.ensures refl _ _ (ap (λ (a : Assumptions). a.uniquely_originating) (c.assumptions.ensures ∙ ap (λ (k : Skeleton). k.assumptions) c.skeleton.ensures)) c.uniquely_originating-uniques.ensures _ _ c.new-pairs.ensures.items
    (end (λ o p. Has (λ u. IsPairBetween o u p) uniques) c.events-occurrences.result.now _ _ _ c.loop-occurrence-test.false c.loop-occurrence.invariant)
