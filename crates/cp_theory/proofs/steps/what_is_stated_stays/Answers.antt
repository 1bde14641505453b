use Rattle.cp_theory.proofs.StatedSteps.{stated_under, stated_with_pairs}
use Rattle.cp_theory.proofs.steps.what_is_stated_stays.Goals as goal

pub returns-clause-substitution : goal.returns-clause-substitution
returns-clause-substitution c = stated_under

pub returns-clause-pairs : goal.returns-clause-pairs
returns-clause-pairs c = stated_with_pairs
