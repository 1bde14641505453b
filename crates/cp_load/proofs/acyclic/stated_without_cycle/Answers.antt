use Rattle.std.proofs.Common.{map, ◌∙◌, subst}
use Rattle.std.proofs.lemmas.Result.{IfOk-weaker}
use Rattle.cp_sexpr.specs.View.{view}
use Rattle.cp_load.specs.Acyclic.{IsAcyclicUpTo}
use Rattle.cp_load.proofs.OwnParts.{pairs-under}
use Rattle.cp_load.proofs.acyclic.stated_without_cycle.Goals as goal

pub returns : goal.returns
returns c =
    let all = c.deref.ensures.value ∙ c.in_ok-pairs.ensures ∙ pairs-under (map view c.args.items.now) in
    IfOk-weaker c.count_without_cycle.result _ _ (λ n h. subst (IsAcyclicUpTo n) all h) c.count_without_cycle.ensures
