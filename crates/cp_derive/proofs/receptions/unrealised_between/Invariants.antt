use Rattle.cp_derive.proofs.VisitedEvents.{AreVisited}
use Rattle.cp_derive.proofs.receptions.unrealised_between.Given as goal

abbrev pub invariant-loop-occurrence : goal.invariant-loop-occurrence
invariant-loop-occurrence l = AreVisited l.fn.known_before.skeleton l.known_before.skeleton l.occurrences l.occurrence-index l.nodes.items
