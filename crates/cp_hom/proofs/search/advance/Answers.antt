use Rattle.std.proofs.Common.{◌≤◌, ◌<◌, ℕ, sym, subst}
use Rattle.std.specs.Prelude.{IfNone}
use Rattle.std.proofs.lemmas.Result.{IfOk-weaker}
use Rattle.cp_hom.specs.PartialMaps.{partial_view}
use Rattle.cp_hom.specs.OpenMaps.{branch_view, branches_view, NeverEmbeds, TakePlace}
use Rattle.cp_hom.proofs.SearchSteps.{whole_at_end, nothing_found, no_choice, choice_placed, none_left_to_try, next_sure, next_tried, none_weaker}
use Rattle.cp_hom.proofs.search.advance.Goals as goal

pub finish-requires-clause-whole : goal.finish-requires-clause-whole
finish-requires-clause-whole c =
    whole_at_end c.args.a.now c.args.b.now c.args.items.now (branch_view c.args.branch) c.requires.items c.requires.branch c.in_default.ensures

pub returns-in_default-clause-none : goal.returns-in_default-clause-none
returns-in_default-clause-none c =
    IfOk-weaker c.finish.result (λ found. IfNone found (NeverEmbeds c.args.a.now c.args.b.now (partial_view c.args.branch.given))) _
    (λ found. none_weaker found _ _ (λ never.
    nothing_found c.args.a.now c.args.b.now c.args.items.now (branch_view c.args.branch) (branches_view c.args.branches.now.items) c.requires.branches
    (λ f h w. never f w.0 h)))
    c.finish.ensures.none

pub returns-then-branch-count-clause-none : goal.returns-then-branch-count-clause-none
returns-then-branch-count-clause-none c =
    nothing_found c.args.a.now c.args.b.now c.args.items.now (branch_view c.args.branch) (branches_view c.args.branches.now.items) c.requires.branches
    (no_choice c.args.a.now c.args.b.now c.args.items.now (branch_view c.args.branch) c.in-Some.item (sym c.in-Some.ensures)
    (subst (λ (n : ℕ). n ≤ c.args.branch.choice) c.count.ensures c.if-branch-count.true))

pub returns-then-is_listed-clause-none : goal.returns-then-is_listed-clause-none
returns-then-is_listed-clause-none c =
    subst (TakePlace c.args.a.now c.args.b.now c.args.items.now (branch_view c.args.branch) (branches_view c.args.branches.now.items)) (sym c.in_ok-push_placed.ensures)
    (choice_placed c.args.a.now c.args.b.now c.args.items.now (branch_view c.args.branch) (branches_view c.args.branches.now.items) c.in-Some.item (sym c.in-Some.ensures)
    (subst (λ (n : ℕ). c.args.branch.choice < n) c.count.ensures c.if-branch-count.false) c.requires.branch c.requires.branches c.requires.items c.requires.ordered c.requires.other_ordered
    (c.requires.branch.placed c.in-Some.item (c.is_listed.ensures c.if-is_listed.true)))

pub returns-in_default-next_choice-clause-none : goal.returns-in_default-next_choice-clause-none
returns-in_default-next_choice-clause-none c =
    nothing_found c.args.a.now c.args.b.now c.args.items.now (branch_view c.args.branch) (branches_view c.args.branches.now.items) c.requires.branches
    (none_left_to_try c.args.a.now c.args.b.now c.args.items.now (branch_view c.args.branch) c.in-Some.item (sym c.in-Some.ensures)
    c.in_default-next_choice.ensures)

pub returns-then-next-clause-none : goal.returns-then-next-clause-none
returns-then-next-clause-none c =
    subst (TakePlace c.args.a.now c.args.b.now c.args.items.now (branch_view c.args.branch) (branches_view c.args.branches.now.items)) (sym c.in_ok-push_placed-2.ensures)
    (next_sure c.args.a.now c.args.b.now c.args.items.now (branch_view c.args.branch) (branches_view c.args.branches.now.items) c.in-Some.item (sym c.in-Some.ensures)
    c.requires.branch c.requires.branches c.requires.items c.requires.ordered c.requires.other_ordered c.in-Some-next_choice.next c.in-Some-next_choice.ensures c.if-next.true)

pub returns-clause-none : goal.returns-clause-none
returns-clause-none c =
    subst (TakePlace c.args.a.now c.args.b.now c.args.items.now (branch_view c.args.branch) (branches_view c.args.branches.now.items)) (sym c.in_ok-push_next.ensures)
    (next_tried c.args.a.now c.args.b.now c.args.items.now (branch_view c.args.branch) (branches_view c.args.branches.now.items) c.in-Some.item (sym c.in-Some.ensures)
    c.requires.branch c.requires.branches c.requires.items c.requires.ordered c.requires.other_ordered c.in-Some-next_choice.next c.in-Some-next_choice.ensures c.in_ok-found.found c.in_ok-found.ensures)
