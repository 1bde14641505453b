use Rattle.std.proofs.Common.{◌≡◌, length, ap, ◌∙◌, subst, sym}
use Rattle.cp_model.specs.Skeleton.{Skeleton, Before, IsOrderPair}
use Rattle.cp_model.specs.Extensions.{AddsListener}
use Rattle.cp_skel.specs.Sound.{IsSound}
use Rattle.cp_theory.specs.Covering.{put_before}
use Rattle.cp_cohort.specs.Cohort.{GuardedTest}
use Rattle.cp_cohort.proofs.GrownReleases.{put_there}
use Rattle.cp_cohort.proofs.AddedListener.{may_be_put, never_refused, listener_added}
use Rattle.cp_cohort.proofs.listeners.add_before.Goals as goal

pub add_order-requires : goal.add_order-requires
add_order-requires c =
    let q = c.args.guarded_test.now in
    let number : c.in_ok-strand.strand ≡ length q.skeleton.strands = c.in_ok-strand.ensures.number ∙ ap (λ (k : Skeleton). length k.strands) c.requires.copied in
    let adds : AddsListener c.args.term.now q.skeleton c.add_listener.new.self = listener_added q.skeleton c.args.k.now c.add_listener.new.self c.args.term.now c.in_ok-message.message c.requires.copied c.in_ok-message.ensures c.in_ok-strand.ensures.changed in
    record {
      pair = subst (λ (z : GuardedTest). IsOrderPair c.add_listener.new.self (record { earlier = record { strand = c.in_ok-strand.strand; index = 1 }; later = z.node })) (sym c.guarded_test.view_is)
          (may_be_put q c.args.term.now c.is_test.ensures c.in_ok-strand.strand number c.add_listener.new.self adds);
    }

pub unreachable-requires : goal.unreachable-requires
unreachable-requires c =
    let q = c.args.guarded_test.now in
    let number : c.in_ok-strand.strand ≡ length q.skeleton.strands = c.in_ok-strand.ensures.number ∙ ap (λ (k : Skeleton). length k.strands) c.requires.copied in
    let adds : AddsListener c.args.term.now q.skeleton c.add_listener.new.self = listener_added q.skeleton c.args.k.now c.add_listener.new.self c.args.term.now c.in_ok-message.message c.requires.copied c.in_ok-message.ensures c.in_ok-strand.ensures.changed in
    let sound : IsSound q.skeleton = subst (λ (k : Skeleton). IsSound k) c.requires.copied c.is_sound.ensures in
    never_refused q c.args.term.now c.is_test.ensures c.in_ok-strand.strand number c.add_listener.new.self adds sound
    (subst (λ (z : GuardedTest). Before c.add_listener.new.self z.node (record { strand = c.in_ok-strand.strand; index = 1 })) c.guarded_test.view_is (c.in_ok-add_order.ensures.refused.0 c.if-not-branch.true))

pub returns : goal.returns
returns c =
    let q = c.args.guarded_test.now in
    let adds : AddsListener c.args.term.now q.skeleton c.add_listener.new.self = listener_added q.skeleton c.args.k.now c.add_listener.new.self c.args.term.now c.in_ok-message.message c.requires.copied c.in_ok-message.ensures c.in_ok-strand.ensures.changed in
    let rest = c.in_ok-add_order.ensures.rest c.if-not-branch.false in
    record {
      number = c.in_ok-strand.ensures.number ∙ ap (λ (k : Skeleton). length k.strands) c.requires.copied;
      put = put_there c.add_listener.new.self c.add_order.new.self _ _ rest (c.in_ok-add_order.ensures.pairs c.if-not-branch.false)
          ∙ ap (λ (z : GuardedTest). put_before (record { strand = c.in_ok-strand.strand; index = 1 }) z.node c.add_listener.new.self) c.guarded_test.view_is ∙ ap (λ (k : Skeleton). put_before (record { strand = c.in_ok-strand.strand; index = 1 }) q.node k) adds;
    }
