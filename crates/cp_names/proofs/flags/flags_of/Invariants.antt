use Rattle.std.proofs.Common.{◌≡◌, drop, false, replicate}
use Rattle.cp_names.specs.Flags.{flagged_variables}
use Rattle.cp_names.proofs.flags.flags_of.Given as goal

abbrev pub invariant-loop-variable : goal.invariant-loop-variable
invariant-loop-variable l = flagged_variables (drop l.variable-index l.variables) l.flags.items ≡ flagged_variables l.variables (replicate l.count false)
