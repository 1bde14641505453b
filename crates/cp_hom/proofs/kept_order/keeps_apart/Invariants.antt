use Rattle.std.proofs.Common.{◌<◌, ℕ}
use Rattle.cp_hom.specs.Maps.{map_view}
use Rattle.cp_hom.specs.Counterparts.{MeetsEarlier}
use Rattle.cp_hom.proofs.kept_order.keeps_apart.Given as goal

-- no strand before this one meets an earlier one
abbrev pub invariant-loop-strand : goal.invariant-loop-strand
invariant-loop-strand l = (s : ℕ) → s < l.strand → MeetsEarlier l.strands (map_view l.mapping).strands s → ⊥
