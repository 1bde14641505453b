use Rattle.cp_search.specs.Candidates.{open_from}
use Rattle.cp_search.proofs.CandidateMarks.{AreMarkedTo}
use Rattle.cp_search.proofs.candidates.candidate_marks.Given as goal

abbrev pub invariant-loop-shape : goal.invariant-loop-shape
invariant-loop-shape l = AreMarkedTo (open_from 0 l.made l.settled) l.marks.items l.shape-index
