use Rattle.std.proofs.Common.{length}
use Rattle.cp_skel.specs.Tables.{DiffersInTable}
use Rattle.cp_pattern.proofs.Opened.{IsDeclaredSoFar, AreBoundSoFar}
use Rattle.cp_pattern.proofs.opened_pattern.declare_locals.Given as goal

-- so many of the locals have new variables, and bindings to them
abbrev pub invariant-loop-local : goal.invariant-loop-local
invariant-loop-local l =
    IsDeclaredSoFar l.initial.k.variables l.pattern.locals l.local-index l.k.variables
    × AreBoundSoFar (length l.initial.k.variables) l.pattern.locals l.local-index l.bindings.items
    × DiffersInTable l.initial.k l.k
