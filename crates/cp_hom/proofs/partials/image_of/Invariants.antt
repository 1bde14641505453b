use Rattle.std.proofs.Common.{◌≡◌, drop}
use Rattle.cp_hom.specs.PartialMaps.{image_in}
use Rattle.cp_hom.proofs.partials.image_of.Given as goal

abbrev pub invariant-loop-placement : goal.invariant-loop-placement
invariant-loop-placement l = image_in l.placements l.strand ≡ image_in (drop l.placement-index l.placements) l.strand
