use Rattle.cp_collapse.proofs.variable_terms.term_of_variable.Goals as goal

pub returns : goal.returns
returns c = c.value_of_variable.ensures
