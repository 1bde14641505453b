use Rattle.std.proofs.Common.{◌↔◌, sym, subst}
use Rattle.std.specs.Prelude.{IsTrue}
use Rattle.cp_model.specs.Skeleton.{IsNodeOf, Before}
use Rattle.cp_skel.specs.Parts.{skeleton_of_parts}
use Rattle.cp_skel.proofs.OrderKept.{asked_before}
use Rattle.cp_skel.proofs.SameNode.{tested_apart}
use Rattle.cp_skel.proofs.SoundSkeletons.{sound_ordered}
use Rattle.cp_skel.proofs.skeleton.Skeleton.before.Goals as goal

pub returns-then-ne : goal.returns-then-ne
returns-then-ne c =
    let k = (skeleton_of_parts c.self.inside) in
    let there : IsNodeOf k.strands c.args.m = subst (λ d. IsNodeOf d.strands c.args.m) (sym c.self.view_is) c.requires.second in
    record {
      exact = subst (λ d. IsTrue c.reaches.result ↔ Before d c.args.n c.args.m) c.self.view_is
          (asked_before k c.args.n c.args.m c.reaches.result (sound_ordered k c.self.invariant) there
          (tested_apart c.args.n c.args.m c.if-ne.ensures) c.reaches.ensures);
    }
