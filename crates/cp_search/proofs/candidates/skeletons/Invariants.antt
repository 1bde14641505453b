use Rattle.std.proofs.Common.{map}
use Rattle.cp_search.specs.Candidates.{open_from}
use Rattle.cp_search.proofs.Opened.{AreTaken}
use Rattle.cp_search.proofs.candidates.skeletons.Given as goal

abbrev pub invariant-loop-number : goal.invariant-loop-number
invariant-loop-number l = AreTaken (λ c. c.skeleton) l.made l.settled l.number (map (λ c. c.skeleton) (open_from 0 l.made l.settled)) (map (λ k. k.now) l.skeletons.items) l.number
