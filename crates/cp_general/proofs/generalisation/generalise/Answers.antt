use Rattle.std.proofs.Common.{inr, sym, subst}
use Rattle.std.proofs.lemmas.Result.{IfOk-weaker}
use Rattle.cp_model.specs.Homomorphism.{Embeds}
use Rattle.cp_model.proofs.LawEmbeddings.{embeds_same}
use Rattle.cp_model.specs.Skeleton.{Skeleton}
use Rattle.cp_general.proofs.SoundGeneralisations.{is_fit, is_most_general, embeds_back}
use Rattle.cp_general.proofs.generalisation.generalise.Goals as goal

pub returns-in-Some-clause-exact : goal.returns-in-Some-clause-exact
returns-in-Some-clause-exact c = inr (rw c.in-Some.is at c.in_ok-general.ensures.some)

pub returns-in-Some-clause-most_general : goal.returns-in-Some-clause-most_general
returns-in-Some-clause-most_general c = is_most_general (rw c.in-Some.is at c.in_ok-general.ensures.some)

pub returns-in-Some-clause-embeds : goal.returns-in-Some-clause-embeds
returns-in-Some-clause-embeds c = embeds_back (rw c.in-Some.is at c.in_ok-general.ensures.some)

pub returns-in-Some-clause-fit : goal.returns-in-Some-clause-fit
returns-in-Some-clause-fit c = λ _. is_fit (rw c.in-Some.is at c.in_ok-general.ensures.some)

pub returns-in-None-clause-embeds : goal.returns-in-None-clause-embeds
returns-in-None-clause-embeds c =
    IfOk-weaker c.copy.result _ _ (λ g same. subst (λ (d : Skeleton). Embeds d c.args.k.now) (sym same) (embeds_same c.args.k.now)) c.copy.ensures.same
