use Rattle.std.proofs.Common.{rules, tests, ◌≤◌}
use Rattle.std.proofs.lemmas.Iterator.{cases_from_any, YieldsList-from_slice}
use Rattle.cp_model.specs.declared.node.OrderPair.{OrderPair}
use Rattle.cp_collapse.specs.Collapses.{LiesOnOne}
use Rattle.cp_collapse.proofs.AnyItem.{some_has}
use Rattle.cp_collapse.proofs.images.some_lies_backward.Goals as goal

pub returns : goal.returns
returns c =
    let has = λ (q : OrderPair). LiesOnOne c.args.lowest.now q × (q.later.index ≤ q.earlier.index) in
    some_has has _ _ (cases_from_any _ _ _ has (λ (q : OrderPair). has q → ⊥) c.any.ensures.ran (YieldsList-from_slice c.args.pairs.now cc) (λ x q k. search (rules, tests)) (λ x q k. search (rules, tests)))
