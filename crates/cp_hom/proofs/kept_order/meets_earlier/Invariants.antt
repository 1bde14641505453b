use Rattle.std.proofs.Common.{◌≡◌, ◌<◌, ℕ}
use Rattle.cp_hom.specs.Maps.{map_view}
use Rattle.cp_hom.specs.Counterparts.{IsRoleStrand}
use Rattle.cp_hom.proofs.kept_order.meets_earlier.Given as goal

-- no strand before this one meets it
abbrev pub invariant-loop-other : goal.invariant-loop-other
invariant-loop-other l = (t : ℕ) → t < l.other → IsRoleStrand l.strands l.strand × IsRoleStrand l.strands t
    × ((map_view l.mapping).strands t ≡ (map_view l.mapping).strands l.strand) → ⊥
