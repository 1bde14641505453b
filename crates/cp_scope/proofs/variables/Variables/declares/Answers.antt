use Rattle.std.proofs.Common.{◌∙◌}
use Rattle.cp_scope.proofs.DeclaredVariables.{known-identifier}
use Rattle.cp_scope.proofs.variables.Variables.declares.Goals as goal

pub returns : goal.returns
returns c = c.has.ensures ∙ known-identifier 0 c.args.self.now c.args.identifier.now
