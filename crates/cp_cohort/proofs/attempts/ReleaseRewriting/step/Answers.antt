use Rattle.std.proofs.Common.{ap, ◌∙◌}
use Rattle.std.proofs.lemmas.Result.{IfOk-weaker}
use Rattle.cp_cohort.specs.Releases.{Release}
use Rattle.cp_cohort.proofs.Occurrences.{outside_if, both_met}
use Rattle.cp_cohort.proofs.SolvingSteps.{nothing_left, branches_left, forms_left, solved_left}
use Rattle.cp_cohort.proofs.attempts.ReleaseRewriting.step.Goals as goal

pub returns-then-branch : goal.returns-then-branch
returns-then-branch c = nothing_left c.args.self.now c.args.attempt c.new.result.items (c.in_ok-is_released_inside.ensures.0 c.if-branch.true) c.new.ensures.items

pub returns-then-not-is_normal : goal.returns-then-not-is_normal
returns-then-not-is_normal c =
    let r = c.args.self.now in
    let x = c.args.attempt.tried in
    IfOk-weaker c.normal_forms.result _ _
    (λ made are. forms_left r c.args.attempt made.items c.if-not-is_normal.true (both_met r x _ c.if-branch.false c.in_ok-is_released_inside.ensures.1 (rw c.in-None.is at c.in_ok-term.ensures)) are)
    c.normal_forms.ensures

pub returns-in_ok-encryptions-in-Some : goal.returns-in_ok-encryptions-in-Some
returns-in_ok-encryptions-in-Some c =
    let r = c.args.self.now in
    let x = c.args.attempt.tried in
    IfOk-weaker c.branches.result _ _
    (λ made are. branches_left r c.args.attempt c.in-Some.term c.in-Some.path c.deref.result.now c.self.inside.patterns.now made.items
    (outside_if r x _ c.if-branch.false c.in_ok-is_released_inside.ensures.1) (rw c.in-Some.is at c.in_ok-term.ensures)
    (c.deref.ensures.value ∙ c.in_ok-encryptions-in-Some.ensures) (ap (λ (q : Release). q.patterns) c.self.view_is) are)
    c.branches.ensures

pub returns-in_ok-vec-in-None : goal.returns-in_ok-vec-in-None
returns-in_ok-vec-in-None c =
    let r = c.args.self.now in
    let x = c.args.attempt.tried in
    solved_left r c.args.attempt _ c.if-not-is_normal.false
    (both_met r x _ c.if-branch.false c.in_ok-is_released_inside.ensures.1 (rw c.in-None.is at c.in_ok-term.ensures)) c.in_ok-vec-in-None.ensures.items
