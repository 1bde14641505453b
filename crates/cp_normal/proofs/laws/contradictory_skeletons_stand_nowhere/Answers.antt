use Rattle.cp_normal.proofs.Losses.{none_of_contradictory, only_origin_pairs}
use Rattle.cp_normal.proofs.laws.contradictory_skeletons_stand_nowhere.Goals as goal

pub returns-clause-nowhere : goal.returns-clause-nowhere
returns-clause-nowhere c = none_of_contradictory

pub returns-clause-added : goal.returns-clause-added
returns-clause-added c = only_origin_pairs
