use Rattle.cp_normal.proofs.VariablesUnder.{given_under, under_declared, agreeing_declared}
use Rattle.cp_normal.proofs.variables_laws.substitutions_keep_declared_variables.Goals as goal

pub returns-clause-under : goal.returns-clause-under
returns-clause-under c = under_declared

pub returns-clause-given : goal.returns-clause-given
returns-clause-given c = given_under

pub returns-clause-agreeing : goal.returns-clause-agreeing
returns-clause-agreeing c = agreeing_declared
