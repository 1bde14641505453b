use Rattle.std.proofs.Common.{◌∙◌}
use Rattle.cp_model.proofs.ListedVariables.{found_in}
use Rattle.cp_model.proofs.variable.has_variable.Goals as goal

pub returns : goal.returns
returns c = c.contains.ensures.value ∙ found_in c.args.variables.now c.args.variable
