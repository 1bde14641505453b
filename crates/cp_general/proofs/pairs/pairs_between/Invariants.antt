use Rattle.std.proofs.Common.{◌≡◌, ◌++◌, drop}
use Rattle.cp_general.specs.ListedPairs.{pairs_between}
use Rattle.cp_general.proofs.pairs.pairs_between.Given as goal

abbrev pub invariant-loop-from : goal.invariant-loop-from
invariant-loop-from l = l.pairs.items ++ pairs_between (drop l.from-index l.froms) l.tos ≡ pairs_between l.froms l.tos
