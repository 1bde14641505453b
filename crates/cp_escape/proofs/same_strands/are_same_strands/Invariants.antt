use Rattle.cp_escape.proofs.SameStrandLists.{SameSoFar}
use Rattle.cp_escape.proofs.same_strands.are_same_strands.Given as goal

abbrev pub invariant-loop-index : goal.invariant-loop-index
invariant-loop-index l = SameSoFar l.a l.b l.index
