use Rattle.std.proofs.Common.{◌≡◌, ◌++◌, drop}
use Rattle.cp_general.specs.ListedPairs.{pairs_to_receptions}
use Rattle.cp_general.proofs.pairs.add_pairs_from.Given as goal

abbrev pub invariant-loop-to : goal.invariant-loop-to
invariant-loop-to l = l.pairs.items ++ pairs_to_receptions l.from (drop l.to-index l.tos) ≡ l.initial.pairs.items ++ pairs_to_receptions l.from l.tos
