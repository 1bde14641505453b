use Rattle.std.proofs.lemmas.Result.{IfOk-weaker}
use Rattle.cp_normal.proofs.FormsAlone.{alone_exact, alone_forms, alone_lose_none, alone_come, alone_variables}
use Rattle.cp_normal.proofs.normal_forms.normalise.Goals as goal

pub returns-clause-forms : goal.returns-clause-forms
returns-clause-forms c = IfOk-weaker c.skeletons_of.result _ _ (λ ks same. alone_forms c.args.k _ _ c.in_ok-forms.ensures.forms ks.items same) c.skeletons_of.ensures

pub returns-clause-loses_none : goal.returns-clause-loses_none
returns-clause-loses_none c = IfOk-weaker c.skeletons_of.result _ _ (λ ks same. alone_lose_none c.args.k _ _ c.in_ok-forms.ensures.forms ks.items same) c.skeletons_of.ensures

pub returns-clause-exact : goal.returns-clause-exact
returns-clause-exact c = IfOk-weaker c.skeletons_of.result _ _ (λ ks same. alone_exact c.args.k _ _ c.in_ok-forms.ensures.forms ks.items same) c.skeletons_of.ensures

pub returns-clause-by_substitutions : goal.returns-clause-by_substitutions
returns-clause-by_substitutions c = IfOk-weaker c.skeletons_of.result _ _ (λ ks same. alone_come c.args.k _ _ c.in_ok-forms.ensures.forms ks.items same) c.skeletons_of.ensures

pub returns-clause-variables : goal.returns-clause-variables
returns-clause-variables c = IfOk-weaker c.skeletons_of.result _ _ (λ ks same. alone_variables c.args.k _ _ c.in_ok-forms.ensures.forms ks.items same) c.skeletons_of.ensures
