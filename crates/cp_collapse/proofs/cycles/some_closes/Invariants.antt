use Rattle.std.proofs.Common.{drop}
use Rattle.cp_collapse.specs.Cycles.{ClosesCycleAt}
use Rattle.cp_collapse.specs.Property.{Has}
use Rattle.cp_collapse.proofs.cycles.some_closes.Given as goal

abbrev pub invariant-loop-pair : goal.invariant-loop-pair
invariant-loop-pair l = Has (λ q. ClosesCycleAt l.pairs q.earlier) l.pairs → Has (λ q. ClosesCycleAt l.pairs q.earlier) (drop l.pair-index l.pairs)
