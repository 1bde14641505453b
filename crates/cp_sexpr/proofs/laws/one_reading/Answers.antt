use Rattle.cp_sexpr.proofs.Exists.{reading_of}
use Rattle.cp_sexpr.proofs.Unique.{one_reading_of}
use Rattle.cp_sexpr.proofs.laws.one_reading.Goals as goal

pub returns-clause-exists : goal.returns-clause-exists
returns-clause-exists c = reading_of

pub returns-clause-only : goal.returns-clause-only
returns-clause-only c = one_reading_of
