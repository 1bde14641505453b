use Rattle.std.proofs.Common.{◌∙◌}
use Rattle.cp_skel.proofs.SoundSkeletons.{parts_sound}
use Rattle.cp_skel.proofs.skeleton.Skeleton.copy.Goals as goal

pub new-requires : goal.new-requires
new-requires c =
    parts_sound c.args.self.now _ _ _ _ _ (c.in_ok-copy.ensures ∙ c.variables.ensures) (c.in_ok-with_room.ensures ∙ c.strands.ensures)
    (c.in_ok-copy-2.ensures ∙ c.order.ensures) (c.in_ok-copy-3.ensures ∙ c.assumptions.ensures) (c.in_ok-copy-4.ensures ∙ c.from_problem.ensures) c.is_sound.ensures
