use Rattle.cp_theory.proofs.Mapped.{carried_under, carried_with_pairs}
use Rattle.cp_theory.proofs.steps.homomorphisms_stay.Goals as goal

pub returns-clause-substitution : goal.returns-clause-substitution
returns-clause-substitution c = carried_under

pub returns-clause-pairs : goal.returns-clause-pairs
returns-clause-pairs c = carried_with_pairs
