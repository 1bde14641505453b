use Rattle.std.proofs.Common.{◌≡◌, drop}
use Rattle.cp_print.specs.MarkedForms.{has_vars}
use Rattle.cp_print.proofs.strands.has_vars.Given as goal

abbrev pub invariant-loop-number : goal.invariant-loop-number
invariant-loop-number l = has_vars l.flags l.number (drop l.number l.variables) ≡ has_vars l.flags 0 l.variables
