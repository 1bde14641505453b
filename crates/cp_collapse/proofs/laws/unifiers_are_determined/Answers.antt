use Rattle.cp_collapse.proofs.OneUnifier.{one_for_atoms}
use Rattle.cp_collapse.proofs.laws.unifiers_are_determined.Goals as goal

pub returns : goal.returns
returns c = one_for_atoms
