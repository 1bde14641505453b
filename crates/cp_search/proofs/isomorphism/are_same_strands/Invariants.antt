use Rattle.cp_strand.proofs.SameLists.{AreSameTo}
use Rattle.cp_search.proofs.isomorphism.are_same_strands.Given as goal

abbrev pub invariant-loop-index : goal.invariant-loop-index
invariant-loop-index l = AreSameTo l.index l.a l.b
