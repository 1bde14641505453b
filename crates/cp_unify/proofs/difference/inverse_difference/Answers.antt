use Rattle.std.proofs.lemmas.Result.{IfOk-weaker}
use Rattle.cp_unify.proofs.DifferenceSteps.{IsInverseBound, inverse_and_pubk}
use Rattle.cp_unify.proofs.difference.inverse_difference.Goals as goal

pub returns-in-Pubk : goal.returns-in-Pubk
returns-in-Pubk c =
    IfOk-weaker _ (IsInverseBound c.args.b.now c.args.x) _ (λ d. inverse_and_pubk _ _ _ _ _ d c.in-Pubk.ensures) c.bind_inverse.ensures
