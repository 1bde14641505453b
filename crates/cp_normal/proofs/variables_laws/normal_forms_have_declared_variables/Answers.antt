use Rattle.cp_normal.proofs.VariablesOfForms.{forms_declared, comes_declared}
use Rattle.cp_normal.proofs.variables_laws.normal_forms_have_declared_variables.Goals as goal

pub returns-clause-forms : goal.returns-clause-forms
returns-clause-forms c = λ variables k r rs has h i. forms_declared variables has h r i

pub returns-clause-by_substitution : goal.returns-clause-by_substitution
returns-clause-by_substitution c = comes_declared
