use Rattle.std.proofs.Common.{◌∙◌}
use Rattle.cp_spelled.proofs.GatheredLocals.{keeps-found, keeps-missing}
use Rattle.cp_spelled.proofs.locals.Locals.keeps_sort.Goals as goal

pub returns-in-Some : goal.returns-in-Some
returns-in-Some c = c.is_same_sort.ensures ∙ keeps-found c.args.self.now c.args.local c.in-Some.variable c.in-Some.ensures

pub returns-in-None : goal.returns-in-None
returns-in-None c = keeps-missing c.args.self.now c.args.local c.in-None.ensures
