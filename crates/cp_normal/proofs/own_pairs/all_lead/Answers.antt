use Rattle.std.proofs.Common.{ap, ◌∙◌}
use Rattle.std.specs.List.{filter}
use Rattle.std.proofs.lemmas.Result.{IfOk-weaker}
use Rattle.cp_normal.specs.OwnPairs.{is_other}
use Rattle.cp_normal.proofs.OwnPairs.{others_decide}
use Rattle.cp_normal.proofs.own_pairs.all_lead.Goals as goal

pub returns : goal.returns
returns c =
    let are = c.deref.ensures.value ∙ c.in_ok-others.ensures ∙ ap (filter (is_other c.args.order.now)) c.in_ok-pairs.ensures.items in
    IfOk-weaker c.lead_along.result _ _ (λ all h. others_decide c.args.order.now c.args.pairs.now _ all are h) c.lead_along.ensures
