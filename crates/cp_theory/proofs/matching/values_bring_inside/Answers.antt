use Rattle.cp_theory.proofs.Positions.{inside_by_values}
use Rattle.cp_theory.proofs.matching.values_bring_inside.Goals as goal

pub returns : goal.returns
returns c = inside_by_values
