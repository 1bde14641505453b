use Rattle.std.proofs.Common.{is_some, ap, ◌∙◌}
use Rattle.cp_scope.proofs.NamesInUse.{has-place}
use Rattle.cp_scope.proofs.name_set.NameSet.has.Goals as goal

pub returns-in-Some : goal.returns-in-Some
returns-in-Some c = ap is_some c.in-Some.ensures ∙ has-place 0 c.args.self.now c.args.name.now

pub returns-in-None : goal.returns-in-None
returns-in-None c = ap is_some c.in-None.ensures ∙ has-place 0 c.args.self.now c.args.name.now
