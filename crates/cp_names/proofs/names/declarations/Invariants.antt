use Rattle.std.proofs.Common.{◌≡◌, ◌++◌, drop}
use Rattle.cp_names.proofs.names.declarations.Given as goal

abbrev pub invariant-loop-number : goal.invariant-loop-number
invariant-loop-number l = l.declarations.items ++ drop l.number l.table ≡ l.table
