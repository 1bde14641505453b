use Rattle.cp_theory.proofs.AllAbove.{all_above}
use Rattle.cp_cohort.proofs.encryptions.encryptions_above.Goals as goal

pub returns : goal.returns
returns c = all_above _ _ _ _ _ c.loop-step-test.false c.loop-step.invariant
