use Rattle.cp_escape.proofs.Widened.{guards_still}
use Rattle.cp_escape.proofs.laws.widening_keeps_guards.Goals as goal

pub returns : goal.returns
returns c ps k l n critical path p guards widens = guards_still k l n critical path p widens ps guards
