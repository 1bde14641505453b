use Rattle.std.proofs.Common.{◌≡◌, ◌++◌, [], drop}
use Rattle.cp_language.specs.Printed.{locals_in_order}
use Rattle.cp_names.proofs.locals.locals_in_order.Given as goal

-- those found so far, and those that are left, are all
abbrev pub invariant-loop-variable : goal.invariant-loop-variable
invariant-loop-variable l =
    l.found.items ++ locals_in_order l.locals l.found.items (drop l.variable-index l.variables)
    ≡ locals_in_order l.locals [] l.variables
