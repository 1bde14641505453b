use Rattle.std.proofs.Common.{◌≡◌, ◌++◌, drop}
use Rattle.cp_language.specs.Names.{identifiers_in}
use Rattle.cp_names.proofs.names.identifiers.Given as goal

-- the names so far, and those that are left, are all
abbrev pub invariant-loop-variable : goal.invariant-loop-variable
invariant-loop-variable l =
    (l.names.taken ++ identifiers_in (drop l.variable-index l.variables) ≡ identifiers_in l.variables)
    × (l.names.names.items ≡ l.names.taken)
