use Rattle.std.proofs.Common.{◌≡◌, ◌-◌, length}
use Rattle.cp_language.specs.Names.{first_numbered}
use Rattle.cp_names.proofs.names.free_name.Given as goal

-- the numbers so far are taken
abbrev pub invariant-loop-n : goal.invariant-loop-n
invariant-loop-n l = first_numbered (length l.taken - l.n) l.taken l.name l.n ≡ first_numbered (length l.taken) l.taken l.name 0
