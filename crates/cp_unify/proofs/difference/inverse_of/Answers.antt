use Rattle.std.proofs.Common.{false}
use Rattle.std.proofs.lemmas.Result.{IfOk-weaker}
use Rattle.cp_model.specs.Term.{asymmetric_term, akey_variable}
use Rattle.cp_unify.proofs.difference.inverse_of.Goals as goal

pub returns : goal.returns
returns c = IfOk-weaker c.invert.result _ _ (λ t plain. plain (asymmetric_term false (akey_variable c.args.x)) c.in_ok-key.ensures.plain) c.invert.ensures.plain
