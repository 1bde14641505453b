use Rattle.std.proofs.Common.{refl, sym, subst}
use Rattle.std.proofs.lemmas.Result.{on_ok_weaker}
use Rattle.cp_model.specs.Skeleton.{Skeleton}
use Rattle.cp_derive.specs.Unrealised.{ListsUnrealised}
use Rattle.cp_search.proofs.Behind.{apart_of_living}
use Rattle.cp_search.proofs.new_labels.make.Goals as goal

pub push-requires-clause-apart : goal.push-requires-clause-apart
push-requires-clause-apart c =
    let lists = subst (λ (k : Skeleton). ListsUnrealised k c.in_ok-receptions.receptions.items) c.with_events.ensures c.in_ok-receptions.ensures.listed in
    apart_of_living _ c.in_ok-signature.ensures.exact refl (subst (ListsUnrealised c.args.skeleton) (sym c.of-2.ensures) lists) c.requires.general

pub returns-clause-made : goal.returns-clause-made
returns-clause-made c = on_ok_weaker c.push.result (λ h. record { added = _; behind = h.adds.behind; same = refl; found = h.adds.found }) c.push.ensures.pushed

pub returns-clause-general : goal.returns-clause-general
returns-clause-general c = on_ok_weaker c.push.result (λ h. record { added = _; behind = h.adds.behind; same = refl }) c.push.ensures.pushed
