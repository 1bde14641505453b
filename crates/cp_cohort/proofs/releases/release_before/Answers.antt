use Rattle.std.proofs.Common.{◌≡◌, Some, ap, ◌∙◌, sym, subst}
use Rattle.cp_model.specs.Term.{Term}
use Rattle.std.proofs.lemmas.Result.{IfOk-weaker}
use Rattle.cp_model.specs.declared.strand.Event.TheVariants.{Send as send}
use Rattle.cp_model.specs.Skeleton.{Skeleton, term_event_at, Before, IsOrderPair}
use Rattle.cp_theory.specs.Covering.{put_before}
use Rattle.cp_cohort.specs.Cohort.{GuardedTest}
use Rattle.cp_cohort.specs.Views.{operation_of_made}
use Rattle.cp_cohort.proofs.UntilGiven.{until_nothing, until_other}
use Rattle.cp_cohort.proofs.GrownReleases.{put_there, nothing_released, released_all, released_first}
use Rattle.cp_cohort.proofs.releases.release_before.Goals as goal

pub returns-then-not-branch : goal.returns-then-not-branch
returns-then-not-branch g c =
    until_nothing (g.S.GivesPatterns.gives c.args.source.now) c.args.children.now.items (nothing_released c.args.guarded_test.now (operation_of_made c.args.made) c.args.node c.args.grown.now
    (subst (λ (q : GuardedTest). Before c.args.grown.now q.node c.args.node) c.guarded_test.view_is (c.in_ok-add_order.ensures.refused.0 c.if-not-branch.true)))

pub add_order-requires : goal.add_order-requires
add_order-requires g c = record { pair = subst (λ (q : GuardedTest). IsOrderPair c.args.grown.now (record { earlier = c.args.node; later = q.node })) (sym c.guarded_test.view_is) c.requires }

pub message_at-requires : goal.message_at-requires
message_at-requires g c =
    let same : c.add_order.new.self ≡ put_before c.args.node c.args.guarded_test.now.node c.args.grown.now =
    put_there c.args.grown.now c.add_order.new.self c.args.node c.guarded_test.inside.node (c.in_ok-add_order.ensures.rest c.if-not-branch.false) (c.in_ok-add_order.ensures.pairs c.if-not-branch.false)
    ∙ ap (λ (q : GuardedTest). put_before c.args.node q.node c.args.grown.now) c.guarded_test.view_is in
    (send c.requires.sent, ap (λ (k : Skeleton). term_event_at k.strands c.args.node) same ∙ c.requires.transmission)

pub returns : goal.returns
returns g c =
    let same : c.add_order.new.self ≡ put_before c.args.node c.args.guarded_test.now.node c.args.grown.now =
    put_there c.args.grown.now c.add_order.new.self c.args.node c.guarded_test.inside.node (c.in_ok-add_order.ensures.rest c.if-not-branch.false) (c.in_ok-add_order.ensures.pairs c.if-not-branch.false)
    ∙ ap (λ (q : GuardedTest). put_before c.args.node q.node c.args.grown.now) c.guarded_test.view_is in
    let q = c.args.guarded_test.now in
    let op = operation_of_made c.args.made in
    let says = λ (t : Term) (there : term_event_at c.add_order.new.self.strands c.args.node ≡ Some (send t)). c.in_ok-message.ensures (send t) there in
    IfOk-weaker c.release_each.result _ _
    (λ found p. until_other (g.S.GivesPatterns.gives c.args.source.now) c.args.children.now.items c.release_each.new.children.items found
    (released_all q op c.args.node c.add_order.new.self c.args.grown.now c.in_ok-message.message same says)
    (released_first q op c.args.node c.add_order.new.self c.args.grown.now c.in_ok-message.message same says) p)
    c.release_each.ensures
