use Rattle.std.proofs.Common.{◌≡◌, drop}
use Rattle.cp_language.specs.Terms.{variable_from}
use Rattle.cp_scope.proofs.sorts.variable_named.Given as goal

abbrev pub invariant-loop-number : goal.invariant-loop-number
invariant-loop-number l =
    variable_from 0 l.variables l.identifier ≡ variable_from l.number (drop l.number l.variables) l.identifier
