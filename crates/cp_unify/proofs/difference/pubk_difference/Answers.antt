use Rattle.std.proofs.lemmas.Result.{IfOk-weaker}
use Rattle.cp_unify.proofs.DifferenceSteps.{IsInverseBound, pubk_and_inverse}
use Rattle.cp_unify.proofs.difference.pubk_difference.Goals as goal

pub returns-in-Inverse : goal.returns-in-Inverse
returns-in-Inverse c =
    IfOk-weaker _ (IsInverseBound c.args.a.now c.in-Inverse.y) _ (λ d. pubk_and_inverse _ _ _ _ _ _ d c.requires c.in-Inverse.ensures) c.bind_inverse.ensures
