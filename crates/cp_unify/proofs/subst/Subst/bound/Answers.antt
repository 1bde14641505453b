use Rattle.std.proofs.Common.{sym, subst, ◌∙◌}
use Rattle.cp_unify.specs.Places.{IsRestAfter}
use Rattle.cp_unify.proofs.Looked.{behind_bound, found_behind}
use Rattle.cp_unify.proofs.subst.Subst.bound.Goals as goal

pub returns-clause-applied : goal.returns-clause-applied
returns-clause-applied c =
    found_behind (λ t. t.now) c.args.sort c.args.variable _ _ c.first_bound.result
    (subst (λ m. IsRestAfter m c.from_number.result.now c.args.self.now) c.number.ensures c.from_number.ensures) c.first_bound.ensures.applied

pub returns-clause-exact : goal.returns-clause-exact
returns-clause-exact c =
    c.first_bound.ensures.exact
    ∙ sym (behind_bound c.args.sort c.args.variable _ _
    (subst (λ m. IsRestAfter m c.from_number.result.now c.args.self.now) c.number.ensures c.from_number.ensures))
