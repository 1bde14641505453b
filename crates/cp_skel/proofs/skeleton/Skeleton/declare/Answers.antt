use Rattle.cp_skel.specs.Parts.{skeleton_of_parts}
use Rattle.cp_skel.proofs.SoundSkeletons.{tabled_sound}
use Rattle.cp_skel.proofs.skeleton.Skeleton.declare.Goals as goal

pub invariant_of-self : goal.invariant_of-self
invariant_of-self c = tabled_sound (skeleton_of_parts c.self.inside) c.fresh.new.self c.self.invariant
