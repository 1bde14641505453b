use Rattle.std.proofs.Common.{◌≤◌, length}
use Rattle.cp_general.proofs.Stepped.{NoneFrom}
use Rattle.cp_general.proofs.deletion.first_deletion.Given as goal

abbrev pub invariant-loop-rest : goal.invariant-loop-rest
invariant-loop-rest l = NoneFrom l.rest l.k × (l.rest ≤ length l.k.strands)

abbrev pub decreases-loop-rest : goal.decreases-loop-rest
decreases-loop-rest l = l.rest
