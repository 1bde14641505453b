use Rattle.std.proofs.Common.{ap, ◌∙◌, min}
use Rattle.cp_unify.proofs.LeastBound.{seen}
use Rattle.cp_unify.proofs.subst.least_bound.Goals as goal

pub loop-binding-preserved : goal.loop-binding-preserved
loop-binding-preserved c =
    seen _ _ _ _ _ c.loop-binding.invariant c.loop-binding-test.true c.binding-item.is
    (c.min-least.ensures ∙ ap (λ x. min c.loop-binding.least x.number) c.variable.ensures)
