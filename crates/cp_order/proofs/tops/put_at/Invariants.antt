use Rattle.std.proofs.Common.{◌≡◌, ℕ, suc, ◌-◌, length}
use Rattle.cp_order.specs.PredecessorNodes.{tops_at}
use Rattle.cp_order.proofs.tops.put_at.Given as goal

-- no top is changed by what is put behind
abbrev pub invariant-loop-tops : goal.invariant-loop-tops
invariant-loop-tops l = (s : ℕ) → tops_at l.tops.items s ≡ tops_at l.fn.tops.items s

abbrev pub decreases-loop-tops : goal.decreases-loop-tops
decreases-loop-tops l = suc l.node.strand - length l.tops.items
