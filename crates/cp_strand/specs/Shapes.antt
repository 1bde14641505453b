-- What a strand is made of.
use Rattle.cp_model.specs.Skeleton.{SkeletonStrand, listener}
use Rattle.cp_strand.specs.View.{instance_view}
use Rattle.cp_strand.specs.declared.strand.StrandShape.{StrandShape}
use Rattle.cp_strand.specs.declared.strand.StrandShape.TheVariants.{Instance, Listener}

-- The strand that is made so.
abbrev pub strand_of_shape : StrandShape → SkeletonStrand
strand_of_shape (Instance i) = instance_view i.now
strand_of_shape (Listener t) = listener t.now
