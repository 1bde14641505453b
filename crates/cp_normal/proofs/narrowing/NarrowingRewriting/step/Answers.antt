use Rattle.std.proofs.Common.{◌∙◌}
use Rattle.std.proofs.lemmas.Result.{IfOk-weaker}
use Rattle.cp_normal.proofs.NarrowingSteps.{ends_narrowed, branches_narrowed, settled_narrowed}
use Rattle.cp_normal.proofs.narrowing.NarrowingRewriting.step.Goals as goal

pub returns-in-Ends : goal.returns-in-Ends
returns-in-Ends c = ends_narrowed c.args.form c.new.result.items (rw c.in-Ends.is at c.in_ok-next_of.ensures) c.new.ensures.items

pub returns-in-Branches : goal.returns-in-Branches
returns-in-Branches c =
    let f = c.args.form in
    let v = c.in-Branches.misplaced.value in
    let x = c.in-Branches.misplaced.node in
    let next = rw c.in-Branches.is at c.in_ok-next_of.ensures in
    IfOk-weaker c.branches.result _ _
    (λ made are. branches_narrowed f v x c.deref.result.now made.items next.0 next.1 (c.deref.ensures.value ∙ next.2) are)
    c.branches.ensures

pub returns-in_ok-vec-in-Settles : goal.returns-in_ok-vec-in-Settles
returns-in_ok-vec-in-Settles c = settled_narrowed c.args.form c.in_ok-normal-in-Settles.normal _ c.in_ok-normal-in-Settles.ensures c.in_ok-vec-in-Settles.ensures.items
