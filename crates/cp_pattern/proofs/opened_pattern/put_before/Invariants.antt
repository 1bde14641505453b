use Rattle.std.proofs.Common.{◌≡◌, ◌++◌, length}
use Rattle.cp_pattern.proofs.opened_pattern.put_before.Given as goal

-- the bindings that are left, with those behind them, are all
abbrev pub invariant-loop-binding : goal.invariant-loop-binding
invariant-loop-binding l = l.bindings.items ++ l.all ≡ l.initial.bindings.items ++ l.initial.all

abbrev pub decreases-loop-binding : goal.decreases-loop-binding
decreases-loop-binding l = length l.bindings.items
