use Rattle.cp_normal.specs.MisplacedValues.{IsOtherMisplaced, NoneBefore}
use Rattle.cp_normal.proofs.misplaced_values.is_alone.Given as goal

abbrev pub invariant-loop-unique : goal.invariant-loop-unique
invariant-loop-unique l = NoneBefore (IsOtherMisplaced l.k l.occurrence.node l.value) l.uniques l.unique-index
