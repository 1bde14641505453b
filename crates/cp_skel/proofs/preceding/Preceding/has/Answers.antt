use Rattle.std.proofs.Common.{◌↔◌, subst}
use Rattle.std.specs.Prelude.{IsTrue}
use Rattle.cp_model.specs.Order.{ReachesAlong}
use Rattle.cp_model.specs.Skeleton.{Before}
use Rattle.cp_order.specs.PredecessorNodes.{Target}
use Rattle.cp_skel.specs.Preceding.{SkeletonNode}
use Rattle.cp_skel.proofs.OrderKept.{asked_before}
use Rattle.cp_skel.proofs.SameNode.{tested_apart}
use Rattle.cp_skel.proofs.SoundSkeletons.{sound_ordered}
use Rattle.cp_skel.proofs.preceding.Preceding.has.Goals as goal

pub returns-then-ne : goal.returns-then-ne
returns-then-ne c =
    let p = c.self.inside in
    let leads : IsTrue c.has.result ↔ ReachesAlong p.skeleton.now.pairs c.args.other p.node =
    subst (λ (t : Target). IsTrue c.has.result ↔ ReachesAlong t.pairs c.args.other t.node) c.self.invariant.along c.has.ensures in
    subst (λ (n : SkeletonNode). IsTrue c.has.result ↔ Before n.skeleton c.args.other n.node) c.self.view_is
    (asked_before p.skeleton.now c.args.other p.node c.has.result (sound_ordered p.skeleton.now c.is_sound.ensures) c.self.invariant.there
    (tested_apart c.args.other p.node c.if-ne.ensures) leads)
