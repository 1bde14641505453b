use Rattle.std.proofs.Common.{◌≡◌, List, ap, ◌∙◌, subst}
use Rattle.cp_lists.specs.Lists.{IsIn}
use Rattle.cp_lists.proofs.Items.{item_of_read}
use Rattle.cp_lists.proofs.Members.{item_is_in}
use Rattle.cp_model.proofs.CarriedParts.{not_both}
use Rattle.cp_model.specs.Strand.{payload}
use Rattle.cp_pattern.specs.Candidates.{may_equal}
use Rattle.cp_model.specs.declared.step.Step.{Step}
use Rattle.cp_model.specs.Positions.{positions_where}
use Rattle.std.specs.Prelude.{◌↔◌, Bool, IsTrue}
use Rattle.cp_derive.specs.AtNode.{SkeletonNode}
use Rattle.cp_skel.specs.Events.{LocatedEvent}
use Rattle.cp_cohort.specs.CoveringChildren.{IsTransmissionBefore}
use Rattle.cp_cohort.specs.Cohort.{Contracts, GuardedTest}
use Rattle.cp_cohort.specs.Children.{not_before}
use Rattle.cp_cohort.proofs.ChildLists.{puts_nothing, puts_other, puts_first, puts_next, puts_last}
use Rattle.cp_cohort.proofs.Positions.{listed_position}
use Rattle.cp_cohort.proofs.ContractedChildren.{event_contracted}
use Rattle.cp_cohort.proofs.guarded_test.GuardedTest.contract_event.Goals as goal

-- What the answer is of the test, whose node has the tables.
told : (q z : GuardedTest) (at : SkeletonNode) (o : LocatedEvent) (b : Bool) → at ≡ record { skeleton = q.skeleton; node = q.node } → q ≡ z → IsTrue b ↔ IsTransmissionBefore at.skeleton at.node o
    → IsTrue b ↔ IsTransmissionBefore z.skeleton z.node o
told q z at o b e f h = subst (λ (x : GuardedTest). IsTrue b ↔ IsTransmissionBefore x.skeleton x.node o) f (subst (λ (x : SkeletonNode). IsTrue b ↔ IsTransmissionBefore x.skeleton x.node o) e h)

pub returns-then-not-is_sent_before : goal.returns-then-not-is_sent_before
returns-then-not-is_sent_before c =
    let exact = told _ c.args.self.now c.self.inside.at.now c.args.occurrence.now c.is_sent_before.result c.self.invariant.0 c.self.view_is c.is_sent_before.ensures in
    puts_nothing c.args.children.now.items (not_before (λ b. not_both c.if-not-is_sent_before.true (exact.1 b)))

pub loop-path-init : goal.loop-path-init
loop-path-init c = puts_first (Contracts c.args.self.now c.args.occurrence.now) c.deref-path-items.result.now c.args.children.now.items

pub contract_at-requires : goal.contract_at-requires
contract_at-requires c =
    let q = c.args.self.now in
    let o = c.args.occurrence.now in
    let all : c.deref-path-items.result.now ≡ positions_where (may_equal q.critical) (payload o.event) =
    c.deref-path-items.ensures.value ∙ c.in_ok-paths.ensures ∙ ap (λ (z : GuardedTest). positions_where (may_equal z.critical) c.payload.result.now) c.self.view_is ∙ ap (positions_where (may_equal q.critical)) (c.payload.ensures ∙ ap payload c.event.ensures) in
    listed_position (may_equal q.critical) (payload o.event) c.path-item.result
    (subst (λ (ps : List (List Step)). IsIn c.path-item.result ps) all (item_is_in c.deref-path-items.result.now c.loop-path.path-index c.path-item.result c.loop-path-test.true c.path-item.is))

pub loop-path-preserved : goal.loop-path-preserved
loop-path-preserved c =
    puts_next (Contracts c.args.self.now c.args.occurrence.now) c.deref-path-items.result.now c.loop-path.path-index c.path-item.result
    (item_of_read c.deref-path-items.result.now c.loop-path.path-index c.path-item.result c.loop-path-test.true c.path-item.is) _ _ _ c.loop-path.invariant c.in_ok-contract_at.ensures

pub returns : goal.returns
returns c =
    let q = c.args.self.now in
    let o = c.args.occurrence.now in
    let all : c.deref-path-items.result.now ≡ positions_where (may_equal q.critical) (payload o.event) =
    c.deref-path-items.ensures.value ∙ c.in_ok-paths.ensures ∙ ap (λ (z : GuardedTest). positions_where (may_equal z.critical) c.payload.result.now) c.self.view_is ∙ ap (positions_where (may_equal q.critical)) (c.payload.ensures ∙ ap payload c.event.ensures) in
    let exact = told _ q c.self.inside.at.now o c.is_sent_before.result c.self.invariant.0 c.self.view_is c.is_sent_before.ensures in
    puts_other c.args.children.now.items c.loop-path.children.items (event_contracted q o c.deref-path-items.result.now all (exact.0 c.if-not-is_sent_before.false))
    (puts_last (Contracts q o) c.deref-path-items.result.now c.loop-path.path-index c.loop-path-test.false c.args.children.now.items c.loop-path.children.items c.loop-path.invariant)
