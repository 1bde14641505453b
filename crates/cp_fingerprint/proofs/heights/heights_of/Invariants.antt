use Rattle.std.proofs.Common.{drop}
use Rattle.cp_fingerprint.specs.Fingerprints.{heights_of}
use Rattle.cp_fingerprint.proofs.GrownHeights.{StillToMake}
use Rattle.cp_fingerprint.proofs.heights.heights_of.Given as goal

abbrev pub invariant-loop-strand : goal.invariant-loop-strand
invariant-loop-strand l = StillToMake l.heights (heights_of (drop l.strand-index l.strands)) (heights_of l.strands)
