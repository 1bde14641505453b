use Rattle.std.proofs.Common.{◌≡◌, ◌++◌, length, drop}
use Rattle.cp_names.specs.Flags.{later_names_by}
use Rattle.cp_names.proofs.names.label_names.Given as goal

-- the names so far, and those that are left, are all
abbrev pub invariant-loop-number : goal.invariant-loop-number
invariant-loop-number l =
    l.names.names.items ++ later_names_by l.names.taken l.flags l.number (drop l.number l.variables)
    ≡ l.of_problem ++ later_names_by l.of_problem l.flags (length l.of_problem) (drop (length l.of_problem) l.variables)
