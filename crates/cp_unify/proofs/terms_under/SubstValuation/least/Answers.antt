use Rattle.cp_unify.proofs.LeastBound.{keeps_below}
use Rattle.cp_unify.proofs.terms_under.SubstValuation.least.Goals as goal

pub returns : goal.returns
returns c = keeps_below _ _ c.least_bound.ensures
