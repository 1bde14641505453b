use Rattle.std.proofs.Common.{◌≡◌, List, Some, None, ◌∙◌, subst, ap}
use Rattle.cp_lists.specs.Lists.{IsIn}
use Rattle.cp_lists.proofs.Items.{item_of_read}
use Rattle.cp_lists.proofs.Members.{item_is_in}
use Rattle.cp_pattern.specs.Candidates.{may_equal}
use Rattle.cp_model.specs.declared.step.Step.{Step}
use Rattle.cp_model.specs.Positions.{positions_where}
use Rattle.cp_cohort.specs.Cohort.{GuardedTest}
use Rattle.cp_cohort.specs.GatheredLists.{EachGives, StartsGiving}
use Rattle.cp_cohort.specs.Children.{ReleasesPut}
use Rattle.cp_cohort.specs.Views.{operation_of_made}
use Rattle.cp_cohort.specs.Widening.{NoneGives, FindsWidening, PutsUntil}
use Rattle.cp_cohort.proofs.UntilGiven.{until_put, until_first, until_next, until_found, until_last}
use Rattle.cp_cohort.proofs.Positions.{listed_position}
use Rattle.cp_cohort.proofs.releases.release_each.Goals as goal

pub loop-path-init : goal.loop-path-init
loop-path-init g c =
    let gives = ReleasesPut c.args.guarded_test.now (operation_of_made c.args.made) c.args.node c.args.put.now c.args.message.now in
    until_first (g.S.GivesPatterns.gives c.args.source.now) gives gives c.deref-path-items.result.now c.args.children.now.items

pub release_at-requires : goal.release_at-requires
release_at-requires g c =
    let q = c.args.guarded_test.now in
    listed_position (may_equal q.critical) c.args.message.now c.path-item.result
    (subst (λ (ps : List (List Step)). IsIn c.path-item.result ps) (c.deref-path-items.ensures.value ∙ c.in_ok-paths.ensures ∙ ap (λ (z : GuardedTest). positions_where (may_equal z.critical) c.args.message.now) c.guarded_test.view_is)
    (item_is_in c.deref-path-items.result.now c.loop-path.path-index c.path-item.result c.loop-path-test.true c.path-item.is))

pub returns-in-Some : goal.returns-in-Some
returns-in-Some g c =
    let source = g.S.GivesPatterns.gives c.args.source.now in
    let q = c.args.guarded_test.now in
    let gives = ReleasesPut q (operation_of_made c.args.made) c.args.node c.args.put.now c.args.message.now in
    let items = c.deref-path-items.result.now in
    let all : items ≡ positions_where (may_equal q.critical) c.args.message.now = c.deref-path-items.ensures.value ∙ c.in_ok-paths.ensures ∙ ap (λ (z : GuardedTest). positions_where (may_equal z.critical) c.args.message.now) c.guarded_test.view_is in
    let new = c.release_at.new.children.items in
    let finds : NoneGives source new c.len-before.result → FindsWidening source new (Some c.in-Some.widening) = rw c.deref.ensures.value at (rw c.in-Some.is at c.in_ok-widening.ensures) in
    subst (λ (ps : List (List Step)). PutsUntil source (EachGives gives ps) (StartsGiving gives gives ps) c.args.children.now.items new (Some c.in-Some.widening)) all
    (until_found source gives gives items c.loop-path.path-index c.path-item.result (item_of_read items c.loop-path.path-index c.path-item.result c.loop-path-test.true c.path-item.is)
    c.args.children.now.items c.loop-path.children.items new c.in-Some.widening c.loop-path.invariant
    (until_put source (gives c.path-item.result) c.loop-path.children.items new (Some c.in-Some.widening) c.len-before.result (c.len-before.ensures ∙ c.loop-path.children.ok.0) c.in_ok-release_at.ensures finds))

pub loop-path-preserved : goal.loop-path-preserved
loop-path-preserved g c =
    let source = g.S.GivesPatterns.gives c.args.source.now in
    let gives = ReleasesPut c.args.guarded_test.now (operation_of_made c.args.made) c.args.node c.args.put.now c.args.message.now in
    let items = c.deref-path-items.result.now in
    let new = c.release_at.new.children.items in
    let finds : NoneGives source new c.len-before.result → FindsWidening source new None = rw c.deref.ensures.value at (rw c.in_default.is at c.in_ok-widening.ensures) in
    until_next source gives gives items c.loop-path.path-index c.path-item.result (item_of_read items c.loop-path.path-index c.path-item.result c.loop-path-test.true c.path-item.is)
    c.args.children.now.items c.loop-path.children.items new c.loop-path.invariant
    (until_put source (gives c.path-item.result) c.loop-path.children.items new None c.len-before.result (c.len-before.ensures ∙ c.loop-path.children.ok.0) c.in_ok-release_at.ensures finds)

pub returns : goal.returns
returns g c =
    let source = g.S.GivesPatterns.gives c.args.source.now in
    let q = c.args.guarded_test.now in
    let gives = ReleasesPut q (operation_of_made c.args.made) c.args.node c.args.put.now c.args.message.now in
    let items = c.deref-path-items.result.now in
    let all : items ≡ positions_where (may_equal q.critical) c.args.message.now = c.deref-path-items.ensures.value ∙ c.in_ok-paths.ensures ∙ ap (λ (z : GuardedTest). positions_where (may_equal z.critical) c.args.message.now) c.guarded_test.view_is in
    subst (λ (ps : List (List Step)). PutsUntil source (EachGives gives ps) (StartsGiving gives gives ps) c.args.children.now.items c.loop-path.children.items None) all
    (until_last source gives gives items c.loop-path.path-index c.loop-path-test.false c.args.children.now.items c.loop-path.children.items c.loop-path.invariant)
