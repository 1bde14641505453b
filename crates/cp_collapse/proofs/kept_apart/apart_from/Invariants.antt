use Rattle.std.proofs.Common.{ℕ}
use Rattle.cp_lists.specs.Lists.{IsIn}
use Rattle.cp_model.specs.Skeleton.{Skeleton}
use Rattle.cp_collapse.specs.FirstPartitions.{AreKeptApart, AreApart}
use Rattle.cp_collapse.proofs.kept_apart.apart_from.Given as goal

abbrev pub invariant-loop-two : goal.invariant-loop-two
invariant-loop-two l = (k : Skeleton) → AreApart k l.all → (t : ℕ) → IsIn t l.strands.items → AreKeptApart k l.number t
