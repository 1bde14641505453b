use Rattle.cp_strand.proofs.SameLists.{AreSameTo}
use Rattle.cp_collapse.proofs.substituted.are_same_terms.Given as goal

abbrev pub invariant-loop-index : goal.invariant-loop-index
invariant-loop-index l = AreSameTo l.index l.a l.b
