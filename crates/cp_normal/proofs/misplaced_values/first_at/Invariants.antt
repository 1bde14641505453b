use Rattle.cp_normal.specs.MisplacedValues.{OriginatesElsewhere, NoneBefore}
use Rattle.cp_normal.proofs.misplaced_values.first_at.Given as goal

abbrev pub invariant-loop-unique : goal.invariant-loop-unique
invariant-loop-unique l = NoneBefore (OriginatesElsewhere l.k l.occurrence.node) l.uniques l.unique-index
