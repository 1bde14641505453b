use Rattle.std.proofs.Common.{map}
use Rattle.cp_search.proofs.Opened.{AreTaken}
use Rattle.cp_search.specs.Candidates.{open_from}
use Rattle.cp_search.proofs.candidates.numbers.Given as goal

abbrev pub invariant-loop-number : goal.invariant-loop-number
invariant-loop-number l = AreTaken (λ c. c.number) l.made l.settled l.number (map (λ c. c.number) (open_from 0 l.made l.settled)) l.numbers.items l.number
