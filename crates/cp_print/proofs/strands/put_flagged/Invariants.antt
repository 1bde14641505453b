use Rattle.std.proofs.Common.{false, drop}
use Rattle.cp_print.specs.MarkedForms.{vars_by}
use Rattle.cp_print.proofs.SpelledItems.{ItemsLeft}
use Rattle.cp_print.proofs.strands.put_flagged.Given as goal

abbrev pub invariant-loop-number : goal.invariant-loop-number
invariant-loop-number l = ItemsLeft false l.fn.out l.out (vars_by l.names l.flags l.number (drop l.number l.variables)) (vars_by l.names l.flags 0 l.variables)
