use Rattle.cp_roots.proofs.VariablesOfRoots.{roots_declared}
use Rattle.cp_roots.proofs.laws.roots_have_declared_variables.Goals as goal

pub returns : goal.returns
returns c = roots_declared
