use Rattle.cp_theory.proofs.Under.{apart_under, factors_under}
use Rattle.cp_theory.proofs.standings.substitution_keeps_standings.Goals as goal

pub returns-clause-apart : goal.returns-clause-apart
returns-clause-apart c = apart_under

pub returns-clause-factors : goal.returns-clause-factors
returns-clause-factors c = factors_under
