use Rattle.cp_theory.proofs.Origins.{lost_origin, unique_value_originates}
use Rattle.cp_theory.proofs.standings.lost_origin_stands_nowhere.Goals as goal

pub returns-clause-nowhere : goal.returns-clause-nowhere
returns-clause-nowhere c = lost_origin

pub returns-clause-originates : goal.returns-clause-originates
returns-clause-originates c = unique_value_originates
