use Rattle.std.proofs.Common.{◌≡◌, ◌++◌, drop}
use Rattle.cp_theory.specs.Above.{encryptions_above}
use Rattle.cp_cohort.proofs.encryptions.encryptions_above.Given as goal

abbrev pub invariant-loop-step : goal.invariant-loop-step
invariant-loop-step l = l.above.items ++ encryptions_above l.rest (drop l.step-index l.step-items) ≡ encryptions_above l.term l.path
