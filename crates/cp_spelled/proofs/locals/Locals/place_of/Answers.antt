use Rattle.std.proofs.Common.{length, ap, ◌∙◌}
use Rattle.cp_spelled.proofs.Tabled.{place-found, place-missing}
use Rattle.cp_spelled.proofs.locals.Locals.place_of.Goals as goal

pub returns-in-Some : goal.returns-in-Some
returns-in-Some c = place-found c.args.self.now c.args.number c.in-Some.variable c.in-Some.ensures

pub returns-in-None : goal.returns-in-None
returns-in-None c = c.len.ensures ∙ c.self.inside.locals.ok.0 ∙ ap length c.self.view_is ∙ place-missing c.args.self.now c.args.number c.in-None.ensures
