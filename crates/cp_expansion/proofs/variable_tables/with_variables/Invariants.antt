use Rattle.std.proofs.Common.{◌≡◌, take}
use Rattle.cp_expansion.proofs.variable_tables.with_variables.Given as goal

abbrev pub invariant-loop-number : goal.invariant-loop-number
invariant-loop-number l = l.grown ≡ record l.k { variables = take l.number l.variables }
