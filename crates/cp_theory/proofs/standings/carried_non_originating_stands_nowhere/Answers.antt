use Rattle.cp_theory.proofs.Origins.{carried_non_originating}
use Rattle.cp_theory.proofs.standings.carried_non_originating_stands_nowhere.Goals as goal

pub returns : goal.returns
returns c = carried_non_originating
