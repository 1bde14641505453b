use Rattle.std.proofs.Common.{◌≡◌, ℕ, drop}
use Rattle.cp_model.specs.Homomorphism.{strand_in, number_or}
use Rattle.cp_hom.specs.PartialMaps.{image_in}
use Rattle.cp_hom.proofs.partials.images.Given as goal

-- the list has the images of the placements from this number on
abbrev pub invariant-loop-index : goal.invariant-loop-index
invariant-loop-index l = (s : ℕ) → strand_in l.strands.items s ≡ number_or s (image_in (drop l.index l.placements) s)
