use Rattle.std.proofs.Common.{◌≡◌, ◌<◌, ◌≤◌, Some, length, ap, sym, ◌∙◌, arith}
use Rattle.cp_lists.specs.Lists.{item_at}
use Rattle.cp_model.specs.Problem.{numbers_from}
use Rattle.cp_model.specs.Skeleton.{SkeletonStrand, listener}
use Rattle.cp_model.specs.Strand.{Role}
use Rattle.cp_cohort.specs.Cohort.{DisplacesEvent, of_listener, of_node, of_role, GuardedTest}
use Rattle.cp_cohort.proofs.ChildLists.{puts_nothing, puts_other, puts_first, puts_next, puts_last, number_there, numbers_past}
use Rattle.cp_cohort.proofs.GrownReleases.{listens}
use Rattle.cp_cohort.proofs.guarded_test.GuardedTest.displace_strand.Goals.{After-trace-events}
use Rattle.cp_cohort.proofs.guarded_test.GuardedTest.displace_strand.Goals as goal

-- as many events are read as the role has
as_many : (c : After-trace-events) → length c.trace-events.result.now ≡ length c.in-Instance.instance.now.role.trace
as_many c = ap length (c.trace-events.ensures ∙ ap (λ (r : Role). r.trace) (c.deref.ensures ∙ c.role.ensures))

pub returns-in_default : goal.returns-in_default
returns-in_default c =
    let heard = listens c.shape.result c.args.strand.now c.shape.ensures c.in_default.not-Instance in
    let there : item_at c.args.self.now.skeleton.strands c.args.number ≡ Some (listener heard.0) = c.requires.there ∙ ap (λ (x : SkeletonStrand). Some x) heard.1 in
    puts_nothing c.args.children.now.items (of_listener there)

pub returns-then-number-self : goal.returns-then-number-self
returns-then-number-self c = puts_nothing c.args.children.now.items (of_node (c.if-number-self.true ∙ ap (λ (q : GuardedTest). q.node.strand) c.self.view_is))

pub loop-index-init : goal.loop-index-init
loop-index-init c = puts_first (DisplacesEvent c.args.self.now c.args.number c.in-Instance.instance.now.role c.in-Instance.instance.now.height) (numbers_from 0 c.in-Instance.instance.now.role.trace) c.args.children.now.items

pub displace_event-requires : goal.displace_event-requires
displace_event-requires c =
    let same = as_many (goal.at.displace_event-requires c).After-trace-events in
    record { there = c.requires.there ∙ ap (λ (d : SkeletonStrand). Some d) (sym c.in-Instance.ensures); other = λ e. c.if-number-self.false (e ∙ ap (λ (q : GuardedTest). q.node.strand) (sym c.self.view_is)); reached = omega (arith, same, c.loop-index-test.true) }

pub loop-index-preserved : goal.loop-index-preserved
loop-index-preserved c =
    let role = c.in-Instance.instance.now.role in
    let same = as_many (goal.at.loop-index-preserved c).After-trace-events in
    let lt : c.loop-index.index < length role.trace = omega (arith, same, c.loop-index-test.true) in
    puts_next (DisplacesEvent c.args.self.now c.args.number role c.in-Instance.instance.now.height) (numbers_from 0 role.trace) c.loop-index.index c.loop-index.index (number_there role.trace c.loop-index.index lt) _ _ _ c.loop-index.invariant c.in_ok-displace_event.ensures

pub returns : goal.returns
returns c =
    let role = c.in-Instance.instance.now.role in
    let same = as_many (goal.at.returns c).After-trace-events in
    let past : length role.trace ≤ c.loop-index.index = omega (arith, same, c.loop-index-test.false) in
    puts_other c.args.children.now.items c.loop-index.children.items
    (λ cs e. of_role (c.requires.there ∙ ap (λ (d : SkeletonStrand). Some d) (sym c.in-Instance.ensures)) (λ n. c.if-number-self.false (n ∙ ap (λ (q : GuardedTest). q.node.strand) (sym c.self.view_is))) e)
    (puts_last (DisplacesEvent c.args.self.now c.args.number role c.in-Instance.instance.now.height) (numbers_from 0 role.trace) c.loop-index.index (numbers_past role.trace c.loop-index.index past) _ _ c.loop-index.invariant)
