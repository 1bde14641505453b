use Rattle.std.proofs.Common.{◌≡◌, ◌++◌, drop}
use Rattle.cp_load.proofs.values.table_of.Given as goal

abbrev pub invariant-loop-declaration : goal.invariant-loop-declaration
invariant-loop-declaration l = l.table ++ drop l.declaration-index l.variables ≡ l.variables
