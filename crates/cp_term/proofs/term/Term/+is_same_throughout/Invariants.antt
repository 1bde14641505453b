use Rattle.cp_term.specs.Size.{term_size}
use Rattle.cp_term.proofs.SameTerms.{AreLeftToCompare}
use Rattle.cp_term.proofs.term.Term.+is_same_throughout.Given as goal

abbrev pub decreases-is_same_throughout : goal.decreases-is_same_throughout
decreases-is_same_throughout l = term_size l.self.now

abbrev pub invariant-loop-left : goal.invariant-loop-left
invariant-loop-left l = AreLeftToCompare l.a l.b l.self l.other

abbrev pub decreases-loop-left : goal.decreases-loop-left
decreases-loop-left l = term_size l.a
