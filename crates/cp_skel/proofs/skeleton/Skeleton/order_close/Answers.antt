use Rattle.std.proofs.Common.{◌↔◌, subst}
use Rattle.std.specs.Prelude.{OnOk}
use Rattle.std.proofs.lemmas.Result.{IfOk-weaker}
use Rattle.cp_model.specs.declared.node.Node.{Node}
use Rattle.cp_model.specs.Skeleton.{Before}
use Rattle.cp_skel.specs.Ordered.{ordered_by}
use Rattle.cp_skel.specs.Parts.{skeleton_of_parts}
use Rattle.cp_skel.proofs.OrderKept.{kept_before}
use Rattle.cp_skel.proofs.SoundSkeletons.{sound_ordered, closed_sound}
use Rattle.cp_skel.proofs.skeleton.Skeleton.order_close.Goals as goal

pub returns-clause-before : goal.returns-clause-before
returns-clause-before c =
    let k = (skeleton_of_parts c.self.inside) in
    subst (λ d. OnOk c.close.result ((x y : Node) → Before (ordered_by k c.close.new.self) x y ↔ Before d x y)) c.self.view_is
    (IfOk-weaker c.close.result _ _ (λ u h. kept_before k (sound_ordered k c.self.invariant) c.close.new.self h) c.close.ensures.keeps)

pub invariant_of-self : goal.invariant_of-self
invariant_of-self c = closed_sound (skeleton_of_parts c.self.inside) c.close.new.self c.close.result c.close.ensures.keeps c.close.ensures.unchanged c.self.invariant
