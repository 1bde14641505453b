use Rattle.std.proofs.Common.{ap, ◌∙◌}
use Rattle.cp_model.specs.Skeleton.{Skeleton}
use Rattle.cp_derive.proofs.AtOnce.{surveyed_directly}
use Rattle.cp_derive.proofs.survey.Survey.is_sent_directly.Goals as goal

pub returns : goal.returns
returns c = λ r.
    surveyed_directly c.self.inside.listed.now c.args.self.now c.self.inside.transmissions.items c.deref.result.now c.pairs-pairs.result.now c.self.inside.sorted c.args.message.now c.args.node
    c.self.invariant c.self.view_is c.deref.ensures.value (c.pairs-pairs.ensures ∙ c.order.ensures ∙ ap (λ (k : Skeleton). k.pairs) c.skeleton.ensures)
    (c.is_sent_directly.ensures r)
