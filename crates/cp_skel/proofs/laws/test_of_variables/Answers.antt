use Rattle.cp_model.proofs.SameTests.{variable_in, in_has_variable}
use Rattle.cp_skel.proofs.laws.test_of_variables.Goals as goal

pub returns : goal.returns
returns c xs x = ((λ h. variable_in xs x h), (λ i. in_has_variable xs x i))
