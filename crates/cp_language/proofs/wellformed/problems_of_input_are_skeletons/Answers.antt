use Rattle.cp_language.proofs.Problems.{have_their_variables, map_to_themselves, state_their_pairs}
use Rattle.cp_language.proofs.wellformed.problems_of_input_are_skeletons.Goals as goal

pub returns-clause-variables : goal.returns-clause-variables
returns-clause-variables c = have_their_variables

pub returns-clause-own : goal.returns-clause-own
returns-clause-own c = map_to_themselves

pub returns-clause-pairs : goal.returns-clause-pairs
returns-clause-pairs c = state_their_pairs
