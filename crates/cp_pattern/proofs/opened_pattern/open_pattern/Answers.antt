use Rattle.std.proofs.Common.{length}
use Rattle.std.proofs.lemmas.Result.{IfOk-weaker}
use Rattle.cp_pattern.proofs.Opened.{opened_by}
use Rattle.cp_pattern.proofs.opened_pattern.open_pattern.Goals as goal

pub returns-clause-term : goal.returns-clause-term
returns-clause-term c =
    IfOk-weaker c.apply.result _ _
    (λ t e. opened_by c.args.pattern.now (length c.args.k.now.variables) c.args.from.now c.in_ok-from.from c.in_ok-bindings.bindings.items c.in_ok-all.all c.term.result.now
    c.in_ok-bindings.ensures.bindings c.in_ok-from.ensures c.in_ok-all.ensures c.term.ensures.term t e)
    c.apply.ensures.plain
