use Rattle.cp_cohort.proofs.Occurrences.{HasNoneUpTo}
use Rattle.cp_cohort.proofs.conditions.first_outside_before.Given as goal

abbrev pub invariant-loop-index : goal.invariant-loop-index
invariant-loop-index l = HasNoneUpTo l.release l.tried l.index
