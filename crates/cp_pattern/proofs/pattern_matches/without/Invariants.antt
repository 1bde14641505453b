use Rattle.std.proofs.Common.{drop}
use Rattle.cp_pattern.proofs.AgreedBindings.{IsKept}
use Rattle.cp_pattern.proofs.pattern_matches.without.Given as goal

-- what is kept, with what is left, says what all bindings say
abbrev pub invariant-loop-binding : goal.invariant-loop-binding
invariant-loop-binding l = IsKept l.locals l.bindings l.kept (drop l.binding-index l.bindings)
