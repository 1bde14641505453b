use Rattle.cp_collapse.proofs.VariablesOfCollapses.{collapse_declared, collapses_declared}
use Rattle.cp_collapse.proofs.collapse_laws.collapses_have_declared_variables.Goals as goal

pub returns-clause-one : goal.returns-clause-one
returns-clause-one c = λ variables k l p part collapsed h. collapse_declared variables k h p l part collapsed

pub returns-clause-all : goal.returns-clause-all
returns-clause-all c = λ variables k l ls are h i. collapses_declared variables k h are.partitions ls are.each l i
