use Rattle.cp_tree.proofs.ReachedLimits.{steps_within, expanded_first}
use Rattle.cp_tree.proofs.NoStep.{roots_generalised}
use Rattle.cp_tree.proofs.laws.searches_keep_within_limits.Goals as goal

pub returns-clause-steps : goal.returns-clause-steps
returns-clause-steps c = steps_within

pub returns-clause-expanded_first : goal.returns-clause-expanded_first
returns-clause-expanded_first c = expanded_first

pub returns-clause-no_step : goal.returns-clause-no_step
returns-clause-no_step c = roots_generalised
