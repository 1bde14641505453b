use Rattle.std.proofs.Common.{◌≡◌, length, refl}
use Rattle.cp_pattern.specs.Opened.{opened_pattern}
use Rattle.cp_cohort.specs.Releases.{came_by}
use Rattle.cp_cohort.proofs.Made.{opened_alone, declares_none, branch_made, never_made}
use Rattle.cp_cohort.proofs.branches.closed_branch.Goals as goal

pub returns-in-Some : goal.returns-in-Some
returns-in-Some c =
    let x = c.args.tried.now in
    let p = c.args.pattern.now in
    let o = c.in_ok-term.term in
    let opened : o ≡ opened_pattern p (came_by x) (length x.skeleton.variables) = opened_alone x p x.substitution c.term.result.now o c.requires refl c.term.ensures.term c.in_ok-term.ensures.plain in
    branch_made x p c.args.encryption.now x.skeleton o refl opened
    x.skeleton (declares_none x.skeleton.variables p c.requires) refl c.in-Some.u
    (record { skeleton = c.in_ok-skeleton-in-Some.skeleton; substitution = c.in_ok-substitution-in-Some.substitution })
    c.in_ok-skeleton-in-Some.ensures.same c.in_ok-skeleton-in-Some.ensures.variables c.in_ok-substitution-in-Some.ensures.plain
    (rw c.in-Some.is at c.in_ok-u.ensures.some)

pub returns : goal.returns
returns c =
    let x = c.args.tried.now in
    let p = c.args.pattern.now in
    let o = c.in_ok-term.term in
    let opened : o ≡ opened_pattern p (came_by x) (length x.skeleton.variables) = opened_alone x p x.substitution c.term.result.now o c.requires refl c.term.ensures.term c.in_ok-term.ensures.plain in
    never_made x p c.args.encryption.now x.skeleton o refl opened (rw c.in-None.is at c.in_ok-u.ensures.none)
