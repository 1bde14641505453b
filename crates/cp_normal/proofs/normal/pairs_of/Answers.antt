use Rattle.std.proofs.Common.{sym, ap, ◌∙◌}
use Rattle.std.proofs.lemmas.Result.{IfOk-weaker}
use Rattle.cp_normal.specs.NextSteps.{form_pairs}
use Rattle.cp_normal.proofs.normal.pairs_of.Goals as goal

pub returns-in-Own : goal.returns-in-Own
returns-in-Own c =
    let own = c.pairs.ensures ∙ c.order.ensures ∙ sym (ap (form_pairs c.args.k.now) c.in-Own.is) in
    IfOk-weaker c.from_slice.result _ _ (λ all e. e ∙ own) c.from_slice.ensures.items

pub returns-in-More : goal.returns-in-More
returns-in-More c = sym (ap (form_pairs c.args.k.now) c.in-More.is)
