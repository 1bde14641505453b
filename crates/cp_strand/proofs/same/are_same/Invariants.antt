use Rattle.cp_strand.proofs.SameLists.{AreSameTo}
use Rattle.cp_strand.proofs.same.are_same.Given as goal

abbrev pub invariant-loop-index : goal.invariant-loop-index
invariant-loop-index g l = AreSameTo l.index l.a l.b
