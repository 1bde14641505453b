use Rattle.std.proofs.Common.{◌≡◌, sym, ap, ◌∙◌, subst}
use Rattle.cp_model.specs.Given.{listed}
use Rattle.cp_skel.specs.Parts.{skeleton_of_parts}
use Rattle.cp_skel.specs.Sound.{IsSound}
use Rattle.cp_skel.proofs.SoundSkeletons.{listed_sound}
use Rattle.cp_skel.proofs.skeleton.Skeleton.list_assumptions.Goals as goal

pub invariant_of-self : goal.invariant_of-self
invariant_of-self c =
    let k = (skeleton_of_parts c.self.inside) in
    let same : c.in_ok-self-inside.field-0 ≡ listed k = c.in_ok-self-inside.ensures ∙ ap (λ d. listed d) (sym c.self.view_is) in
    subst (λ a. IsSound (record k { assumptions = a })) (sym same) (listed_sound k c.self.invariant)
