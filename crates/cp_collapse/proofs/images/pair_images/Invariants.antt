use Rattle.std.proofs.Common.{take}
use Rattle.cp_collapse.specs.Collapses.{ArePairsIn}
use Rattle.cp_collapse.proofs.images.pair_images.Given as goal

abbrev pub invariant-loop-pair : goal.invariant-loop-pair
invariant-loop-pair l = ArePairsIn l.lowest (take l.pair-index l.pairs) l.images.items
