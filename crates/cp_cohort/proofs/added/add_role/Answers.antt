use Rattle.std.proofs.Common.{◌≡◌, ◌<◌, ◌≤◌, length, Some, None, ap, ◌∙◌, arith}
use Rattle.cp_model.specs.Problem.{numbers_from}
use Rattle.cp_model.specs.Strand.{Role}
use Rattle.cp_cohort.specs.Cohort.{AddsEvent, StartsEvent}
use Rattle.cp_cohort.specs.Widening.{PutsUntil}
use Rattle.cp_cohort.proofs.ChildLists.{number_there, numbers_past}
use Rattle.cp_cohort.proofs.UntilGiven.{until_first, until_next, until_found, until_last}
use Rattle.cp_cohort.proofs.added.add_role.Goals.{After-trace-events}
use Rattle.cp_cohort.proofs.added.add_role.Goals as goal

-- the events are those of the role's trace
as_long : (g : _) (c : After-trace-events g) → length c.trace-events.result.now ≡ length c.args.role.now.value.trace
as_long g c = ap length (c.trace-events.ensures ∙ ap (λ (r : Role). r.trace) c.deref.ensures)

pub loop-index-init : goal.loop-index-init
loop-index-init g c =
    until_first (g.S.GivesPatterns.gives c.args.source.now) (AddsEvent c.args.guarded_test.now c.args.role.now.value) (StartsEvent c.args.guarded_test.now c.args.role.now.value) (numbers_from 0 c.args.role.now.value.trace) c.args.children.now.items

pub add_event-requires : goal.add_event-requires
add_event-requires g c = let same = as_long g (goal.at.add_event-requires g c).After-trace-events in record { reached = omega (arith, same, c.loop-index-test.true) }

pub returns-in-Some : goal.returns-in-Some
returns-in-Some g c =
    let source = g.S.GivesPatterns.gives c.args.source.now in
    let q = c.args.guarded_test.now in
    let role = c.args.role.now.value in
    let same = as_long g (goal.at.returns-in-Some g c).After-trace-events in
    let lt : c.loop-index.index < length role.trace = omega (arith, same, c.loop-index-test.true) in
    let one : PutsUntil source (AddsEvent q role c.loop-index.index) (StartsEvent q role c.loop-index.index) c.loop-index.children.items c.add_event.new.children.items (Some c.in-Some.widening) = rw c.in-Some.is at c.in_ok-widening.ensures in
    until_found source (AddsEvent q role) (StartsEvent q role) (numbers_from 0 role.trace) c.loop-index.index c.loop-index.index (number_there role.trace c.loop-index.index lt) _ _ _ c.in-Some.widening c.loop-index.invariant one

pub loop-index-preserved : goal.loop-index-preserved
loop-index-preserved g c =
    let source = g.S.GivesPatterns.gives c.args.source.now in
    let q = c.args.guarded_test.now in
    let role = c.args.role.now.value in
    let same = as_long g (goal.at.loop-index-preserved g c).After-trace-events in
    let lt : c.loop-index.index < length role.trace = omega (arith, same, c.loop-index-test.true) in
    let one : PutsUntil source (AddsEvent q role c.loop-index.index) (StartsEvent q role c.loop-index.index) c.loop-index.children.items c.add_event.new.children.items None = rw c.in_default.is at c.in_ok-widening.ensures in
    until_next source (AddsEvent q role) (StartsEvent q role) (numbers_from 0 role.trace) c.loop-index.index c.loop-index.index (number_there role.trace c.loop-index.index lt) _ _ _ c.loop-index.invariant one

pub returns : goal.returns
returns g c =
    let same = as_long g (goal.at.returns g c).After-trace-events in
    let past : length c.args.role.now.value.trace ≤ c.loop-index.index = omega (arith, same, c.loop-index-test.false) in
    until_last (g.S.GivesPatterns.gives c.args.source.now) (AddsEvent c.args.guarded_test.now c.args.role.now.value) (StartsEvent c.args.guarded_test.now c.args.role.now.value) (numbers_from 0 c.args.role.now.value.trace) c.loop-index.index
    (numbers_past c.args.role.now.value.trace c.loop-index.index past) _ _ c.loop-index.invariant
