use Rattle.std.proofs.Common.{refl}
use Rattle.std.proofs.lemmas.Result.{on_ok_weaker}
use Rattle.cp_search.proofs.Behind.{apart_of_dead}
use Rattle.cp_search.proofs.new_labels.make_dead.Goals as goal

pub push-requires-clause-apart : goal.push-requires-clause-apart
push-requires-clause-apart c = apart_of_dead _ c.in_ok-signature.ensures.exact refl c.new.ensures refl

pub push-requires-clause-events : goal.push-requires-clause-events
push-requires-clause-events c = λ lives. absurd (cc)

pub returns-clause-made : goal.returns-clause-made
returns-clause-made c = on_ok_weaker c.push.result (λ h. record { added = _; behind = h.adds.behind; same = refl; found = h.adds.found }) c.push.ensures.pushed
