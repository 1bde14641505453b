use Rattle.std.proofs.Common.{sym, subst}
use Rattle.std.proofs.lemmas.Result.{IfOk-weaker}
use Rattle.cp_order.specs.Closed.{IsTransitive, KeepsOrder}
use Rattle.cp_order.proofs.ComposedPairs.{composed_closed, composed_keeps}
use Rattle.cp_order.proofs.closure.with_pair.Goals as goal

pub returns-clause-closed : goal.returns-clause-closed
returns-clause-closed c =
    IfOk-weaker c.with_composed.result _ _ (λ v h. subst IsTransitive (sym h) (composed_closed c.args.closed.now c.args.pair c.requires)) c.with_composed.ensures

pub returns-clause-keeps : goal.returns-clause-keeps
returns-clause-keeps c =
    IfOk-weaker c.with_composed.result _ _ (λ v h. subst (KeepsOrder _) (sym h) (composed_keeps c.args.closed.now c.args.pair c.requires)) c.with_composed.ensures
