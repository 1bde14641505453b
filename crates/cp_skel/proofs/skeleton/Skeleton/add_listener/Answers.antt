use Rattle.std.proofs.Common.{◌++◌, ◌∷◌, [], ap, ◌∙◌}
use Rattle.cp_skel.specs.Parts.{skeleton_of_parts}
use Rattle.cp_skel.proofs.SoundSkeletons.{with_listener_sound}
use Rattle.cp_skel.proofs.skeleton.Skeleton.add_listener.Goals as goal

pub invariant_of-self-2 : goal.invariant_of-self-2
invariant_of-self-2 c =
    let before = c.self.inside.strands.items in
    with_listener_sound (skeleton_of_parts c.self.inside) c.args.message _
    (c.in_ok-push.ensures.items ∙ ap (λ s. before ++ s ∷ []) c.in_ok-listener.ensures)
    c.self.invariant
