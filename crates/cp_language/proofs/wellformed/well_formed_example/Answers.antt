use Rattle.cp_language.proofs.Example.{states_problem}
use Rattle.cp_language.proofs.wellformed.well_formed_example.Goals as goal

pub returns-clause-stated : goal.returns-clause-stated
returns-clause-stated c = states_problem
