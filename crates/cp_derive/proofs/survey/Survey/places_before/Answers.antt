use Rattle.std.proofs.lemmas.Result.{IfOk-weaker}
use Rattle.cp_derive.proofs.GivenAtNode.{places_surveyed}
use Rattle.cp_derive.proofs.survey.Survey.places_before.Goals as goal

pub returns : goal.returns
returns c =
    IfOk-weaker c.places_before.result _ _
    (λ ps h. places_surveyed c.self.inside.listed.now _ c.args.node c.self.inside.transmissions.items c.deref.result.now c.self.inside.sorted ps.items
    c.self.invariant c.self.view_is c.deref.ensures.value h)
    c.places_before.ensures
