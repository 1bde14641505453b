use Rattle.cp_collapse.specs.FirstPartitions.{AreApart}
use Rattle.cp_collapse.proofs.kept_apart.all_apart.Given as goal

abbrev pub invariant-loop-pair : goal.invariant-loop-pair
invariant-loop-pair l = AreApart l.k l.all.items
