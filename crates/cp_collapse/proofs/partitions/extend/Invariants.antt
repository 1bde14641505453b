use Rattle.std.proofs.Common.{◌≡◌, ◌+◌, ℕ, List, Some}
use Rattle.cp_lists.specs.Lists.{item_at}
use Rattle.cp_collapse.specs.Partitions.{AreDescending}
use Rattle.cp_collapse.specs.Partials.{ArePartlyExtended}
use Rattle.cp_collapse.proofs.partitions.extend.Given as goal

abbrev pub invariant-loop-block : goal.invariant-loop-block
invariant-loop-block l = (ps : List (List ℕ)) (i : ℕ) → item_at ps i ≡ Some l.partial.lowest.items → AreDescending ps →
    ArePartlyExtended l.k l.number ps i (l.number + 1) l.fn.next.items → ArePartlyExtended l.k l.number ps i l.block l.next.items
