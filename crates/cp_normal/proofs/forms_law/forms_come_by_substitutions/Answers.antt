use Rattle.cp_normal.proofs.BySubstitution.{form_comes, comes_factors, come_by_substitutions}
use Rattle.cp_normal.proofs.FormsOf.{are_normal_forms, lose_no_standing}
use Rattle.cp_normal.proofs.forms_law.forms_come_by_substitutions.Goals as goal

pub returns-clause-forms : goal.returns-clause-forms
returns-clause-forms c = λ k r rs has. are_normal_forms has r

pub returns-clause-loses_none : goal.returns-clause-loses_none
returns-clause-loses_none c = lose_no_standing

pub returns-clause-each : goal.returns-clause-each
returns-clause-each c = form_comes

pub returns-clause-factors : goal.returns-clause-factors
returns-clause-factors c = comes_factors

pub returns-clause-all : goal.returns-clause-all
returns-clause-all c = come_by_substitutions
