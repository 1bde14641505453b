use Rattle.std.proofs.Common.{◌≡◌, ◌++◌, drop}
use Rattle.cp_language.specs.Names.{names_onto}
use Rattle.cp_names.proofs.names.names_in_order.Given as goal

-- the names so far, and those that are left, are all
abbrev pub invariant-loop-variable : goal.invariant-loop-variable
invariant-loop-variable l =
    (l.names.taken ++ names_onto l.names.taken (drop l.variable-index l.others) ≡ l.initial.names.taken ++ names_onto l.initial.names.taken l.others)
    × (l.names.names.items ≡ l.names.taken)
