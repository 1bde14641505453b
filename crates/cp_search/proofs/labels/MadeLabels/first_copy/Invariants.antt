use Rattle.cp_search.proofs.AllowedCopies.{IsAmongLater}
use Rattle.cp_search.proofs.labels.MadeLabels.first_copy.Given as goal

abbrev pub invariant-loop-number : goal.invariant-loop-number
invariant-loop-number l = IsAmongLater l.self l.made.parent l.made.skeleton l.numbers l.number-index
