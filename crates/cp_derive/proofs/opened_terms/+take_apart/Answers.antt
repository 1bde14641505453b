use Rattle.std.proofs.Common.{arith}
use Rattle.std.proofs.lemmas.Result.{on_ok_weaker}
use Rattle.cp_derive.proofs.TermParts.{takes_pair}
use Rattle.cp_derive.proofs.opened_terms.+take_apart.Goals as goal

pub loop-opening-preserved : goal.loop-opening-preserved
loop-opening-preserved t c = (
  grind arith,
  λ o second. c.loop-opening.invariant.1 o (takes_pair _ _ _ _ _ _ _ c.in-Pair.ensures c.in_ok-take_apart-in-Pair.ensures second),
)

pub returns-in-Encryption : goal.returns-in-Encryption
returns-in-Encryption t c = on_ok_weaker c.lock.result (λ e. c.loop-opening.invariant.1 _ (e c.args.secrets.now)) c.lock.ensures
