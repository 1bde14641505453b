use Rattle.std.proofs.Common.{◌≡◌, ◌++◌, drop}
use Rattle.cp_names.proofs.names.copied.Given as goal

-- the names so far, and those that are left, are all
abbrev pub invariant-loop-name : goal.invariant-loop-name
invariant-loop-name l = (l.names.taken ++ drop l.name-index l.of_problem ≡ l.of_problem) × (l.names.names.items ≡ l.names.taken)
