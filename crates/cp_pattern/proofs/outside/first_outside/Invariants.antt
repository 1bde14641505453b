use Rattle.std.proofs.Common.{take}
use Rattle.cp_unify.specs.Bindings.{as_substitution}
use Rattle.cp_pattern.proofs.FirstOutside.{AreInside}
use Rattle.cp_pattern.proofs.outside.first_outside.Given as goal

-- the positions so far are inside
abbrev pub invariant-loop-path : goal.invariant-loop-path
invariant-loop-path l = AreInside l.patterns (as_substitution l.from) l.term (take l.path-index l.path-items)
