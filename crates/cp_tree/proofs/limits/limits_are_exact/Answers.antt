use Rattle.cp_tree.proofs.ExactLimits.{exact_steps, exact_strands}
use Rattle.cp_tree.proofs.limits.limits_are_exact.Goals as goal

pub returns-clause-steps : goal.returns-clause-steps
returns-clause-steps c = exact_steps

pub returns-clause-strands : goal.returns-clause-strands
returns-clause-strands c = exact_strands
