use Rattle.cp_normal.specs.MisplacedValues.{OriginatesMisplaced, NoneBefore}
use Rattle.cp_normal.proofs.misplaced_values.first_misplaced.Given as goal

abbrev pub invariant-loop-occurrence : goal.invariant-loop-occurrence
invariant-loop-occurrence l = NoneBefore (OriginatesMisplaced l.k) l.occurrences l.occurrence-index
