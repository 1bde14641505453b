use Rattle.std.proofs.Common.{List, Some, None, subst}
use Rattle.cp_lists.proofs.Items.{item_of_read}
use Rattle.cp_model.specs.Strand.{Role}
use Rattle.cp_cohort.specs.Widening.{PutsUntil}
use Rattle.cp_cohort.specs.GatheredLists.{EachGives, StartsGiving}
use Rattle.cp_cohort.proofs.UntilGiven.{EventsOf, FirstEventsOf, until_of_map, until_first, until_next, until_found, until_last}
use Rattle.cp_cohort.proofs.added.add.Goals as goal

pub loop-role-init : goal.loop-role-init
loop-role-init g c =
    until_first (g.S.GivesPatterns.gives c.args.source.now) (λ role. EventsOf c.args.guarded_test.now role.value) (λ role. FirstEventsOf c.args.guarded_test.now role.value) c.roles-all.result.now c.args.children.now.items

pub loop-role-preserved : goal.loop-role-preserved
loop-role-preserved g c =
    let source = g.S.GivesPatterns.gives c.args.source.now in
    let q = c.args.guarded_test.now in
    let role = c.role-item.result in
    let one : PutsUntil source (EventsOf q role.value) (FirstEventsOf q role.value) c.loop-role.children.items c.add_role.new.children.items None = rw c.in_default.is at c.in_ok-widening.ensures in
    until_next source (λ role. EventsOf q role.value) (λ role. FirstEventsOf q role.value) c.roles-all.result.now c.loop-role.role-index role
    (item_of_read c.roles-all.result.now c.loop-role.role-index role c.loop-role-test.true c.role-item.is) _ _ _ c.loop-role.invariant one

pub returns-in-Some : goal.returns-in-Some
returns-in-Some g c =
    let source = g.S.GivesPatterns.gives c.args.source.now in
    let q = c.args.guarded_test.now in
    let role = c.role-item.result in
    let one : PutsUntil source (EventsOf q role.value) (FirstEventsOf q role.value) c.loop-role.children.items c.add_role.new.children.items (Some c.in-Some.widening) = rw c.in-Some.is at c.in_ok-widening.ensures in
    subst (λ (rs : List Role). PutsUntil source (EachGives (EventsOf q) rs) (StartsGiving (EventsOf q) (FirstEventsOf q) rs) c.args.children.now.items c.add_role.new.children.items (Some c.in-Some.widening)) c.roles-all.ensures
    (until_of_map source (EventsOf q) (FirstEventsOf q) (λ r. r.value) c.roles-all.result.now c.args.children.now.items c.add_role.new.children.items (Some c.in-Some.widening)
    (until_found source (λ role. EventsOf q role.value) (λ role. FirstEventsOf q role.value) c.roles-all.result.now c.loop-role.role-index role
    (item_of_read c.roles-all.result.now c.loop-role.role-index role c.loop-role-test.true c.role-item.is) _ _ _ c.in-Some.widening c.loop-role.invariant one))

pub returns : goal.returns
returns g c =
    let source = g.S.GivesPatterns.gives c.args.source.now in
    let q = c.args.guarded_test.now in
    subst (λ (rs : List Role). PutsUntil source (EachGives (EventsOf q) rs) (StartsGiving (EventsOf q) (FirstEventsOf q) rs) c.args.children.now.items c.loop-role.children.items None) c.roles-all.ensures
    (until_of_map source (EventsOf q) (FirstEventsOf q) (λ r. r.value) c.roles-all.result.now c.args.children.now.items c.loop-role.children.items None
    (until_last source (λ role. EventsOf q role.value) (λ role. FirstEventsOf q role.value) c.roles-all.result.now c.loop-role.role-index c.loop-role-test.false _ _ c.loop-role.invariant))
