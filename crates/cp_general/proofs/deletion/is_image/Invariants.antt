use Rattle.std.proofs.Common.{drop}
use Rattle.cp_lists.specs.Lists.{IsIn}
use Rattle.cp_general.proofs.deletion.is_image.Given as goal

abbrev pub invariant-loop-image : goal.invariant-loop-image
invariant-loop-image l = IsIn l.strand l.strands → IsIn l.strand (drop l.image-index l.strands)
