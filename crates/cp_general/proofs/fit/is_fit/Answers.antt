use Rattle.std.proofs.lemmas.Result.{IfOk-weaker}
use Rattle.cp_general.proofs.FitTests.{fit_if, unfit_if}
use Rattle.cp_general.proofs.fit.is_fit.Goals as goal

pub returns-then-not-branch : goal.returns-then-not-branch
returns-then-not-branch c = unfit_if c.args.k.now _ c.in_ok-is_realised.ensures c.if-not-branch.true

pub returns : goal.returns
returns c = IfOk-weaker c.is_normal.result _ _ (λ b h. fit_if c.args.k.now b (c.in_ok-is_realised.ensures.0 c.if-not-branch.false) h) c.is_normal.ensures
