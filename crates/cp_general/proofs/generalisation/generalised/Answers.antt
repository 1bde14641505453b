use Rattle.std.proofs.Common.{refl}
use Rattle.cp_model.proofs.CarriedParts.{not_both}
use Rattle.cp_general.proofs.SoundGeneralisations.{step_is_fit}
use Rattle.cp_general.proofs.Stepped.{comes_first, then_goes_on, then_ends}
use Rattle.cp_general.proofs.generalisation.generalised.Goals as goal

pub dropped-requires-clause-fit : goal.dropped-requires-clause-fit
dropped-requires-clause-fit c = λ e. absurd (not_both refl e)

pub dropped-requires-2-clause-fit : goal.dropped-requires-2-clause-fit
dropped-requires-2-clause-fit c = λ _. c.in_ok-left.ensures.fit (step_is_fit (rw c.in-Some.is at c.in_ok-first.ensures.some))

pub returns-in-Some-2-clause-some : goal.returns-in-Some-2-clause-some
returns-in-Some-2-clause-some c =
    let k = c.args.k.now in
    let left = c.in_ok-left.left in
    then_goes_on k left c.in-Some-2.freer
    (c.in_ok-left.ensures.comes k (comes_first k c.in-Some.first (rw c.in-Some.is at c.in_ok-first.ensures.some)))
    (rw c.in-Some-2.is at c.in_ok-freer.ensures.some)

pub returns-in-None-clause-some : goal.returns-in-None-clause-some
returns-in-None-clause-some c =
    let k = c.args.k.now in
    then_ends k c.in_ok-left.left
    (c.in_ok-left.ensures.comes k (comes_first k c.in-Some.first (rw c.in-Some.is at c.in_ok-first.ensures.some)))
    c.in_ok-left.ensures.last (rw c.in-None.is at c.in_ok-freer.ensures.none)
