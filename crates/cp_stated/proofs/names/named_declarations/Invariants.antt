use Rattle.std.proofs.Common.{◌≡◌, ◌++◌, drop}
use Rattle.cp_report.specs.Skeletons.{named_declarations}
use Rattle.cp_stated.proofs.names.named_declarations.Given as goal

abbrev pub invariant-loop-number : goal.invariant-loop-number
invariant-loop-number l =
    l.variables ++ named_declarations (drop l.number l.names) (drop l.number l.table) ≡ named_declarations l.names l.table
