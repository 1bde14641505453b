-- The example is well formed, and states a problem.
use Rattle.std.proofs.Common.{◌≡◌, [], Some, refl}
use Rattle.cp_lists.specs.Lists.{IsIn, here, there}
use Rattle.cp_language.specs.Problems.{Problem}
use Rattle.cp_language.specs.Input.{Entry, stated, faults_of, input_of}
use Rattle.cp_language.specs.Example.{example_input}

pub is_well_formed : faults_of example_input ≡ []
is_well_formed = refl

pub states_problem : (e : Entry) × (p : Problem) × IsIn e (input_of example_input) × (stated e ≡ Some p)
states_problem = (_, _, there here, refl)
