use Rattle.std.proofs.Common.{drop}
use Rattle.cp_hom.specs.Counterparts.{IsTaken}
use Rattle.cp_hom.proofs.kept_order.is_taken.Given as goal

abbrev pub invariant-loop-placement : goal.invariant-loop-placement
invariant-loop-placement l =
    IsTaken l.strands l.strand l.image l.placements → IsTaken l.strands l.strand l.image (drop l.placement-index l.placements)
