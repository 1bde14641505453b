use Rattle.std.proofs.Common.{refl, sym, ◌∙◌}
use Rattle.cp_lists.proofs.Appended.{none_counted}
use Rattle.cp_cohort.proofs.Made.{branch_made}
use Rattle.cp_cohort.proofs.branches.branch.Goals as goal

pub closed_branch-requires : goal.closed_branch-requires
closed_branch-requires c = sym c.locals.ensures.variables ∙ none_counted c.locals.result.now _ refl (sym c.is_empty.ensures ∙ c.if-is_empty.true)

pub returns-in-Some : goal.returns-in-Some
returns-in-Some c =
    branch_made c.args.tried.now c.args.pattern.now c.args.encryption.now c.in_ok-wider.wider c.in_ok-term.term c.in_ok-wider.ensures.same c.in_ok-term.ensures.term
    c.open_pattern.new.k c.in_ok-term.ensures.declared c.in_ok-term.ensures.rest c.in-Some.u
    (record { skeleton = c.in_ok-skeleton-in-Some.skeleton; substitution = c.in_ok-substitution-in-Some.substitution })
    c.in_ok-skeleton-in-Some.ensures.same c.in_ok-skeleton-in-Some.ensures.variables c.in_ok-substitution-in-Some.ensures.plain
    (rw c.in-Some.is at c.in_ok-u.ensures.some)
