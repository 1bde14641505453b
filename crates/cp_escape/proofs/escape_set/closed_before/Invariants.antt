use Rattle.std.proofs.Common.{[], drop}
use Rattle.cp_escape.proofs.Before.{GivesEvent}
use Rattle.cp_escape.proofs.TermsOnce.{PutsSoFar}
use Rattle.cp_escape.proofs.escape_set.closed_before.Given as goal

abbrev pub invariant-loop-occurrence : goal.invariant-loop-occurrence
invariant-loop-occurrence l =
    PutsSoFar (GivesEvent l.test.skeleton l.test.node l.known l.critical) l.occurrences (drop l.occurrence-index l.occurrences) [] l.encryptions.items
