use Rattle.std.proofs.Common.{drop}
use Rattle.cp_collapse.specs.Property.{Has}
use Rattle.cp_collapse.specs.Cycles.{ClosesCycleAt}
use Rattle.cp_collapse.proofs.cycles.some_is_closed.Given as goal

abbrev pub invariant-loop-unique : goal.invariant-loop-unique
invariant-loop-unique l = Has (λ u. ClosesCycleAt l.pairs u.origin) l.uniques → Has (λ u. ClosesCycleAt l.pairs u.origin) (drop l.unique-index l.uniques)
