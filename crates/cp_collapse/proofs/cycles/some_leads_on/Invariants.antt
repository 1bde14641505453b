use Rattle.std.proofs.Common.{drop}
use Rattle.cp_collapse.specs.Property.{Has}
use Rattle.cp_collapse.specs.Cycles.{StartsPath}
use Rattle.cp_collapse.proofs.cycles.some_leads_on.Given as goal

abbrev pub invariant-loop-pair : goal.invariant-loop-pair
invariant-loop-pair l =
    Has (λ p. StartsPath l.leading.pairs l.node l.leading.node p) l.pairs → Has (λ p. StartsPath l.leading.pairs l.node l.leading.node p) (drop l.pair-index l.pairs)
