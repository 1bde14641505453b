use Rattle.std.proofs.Common.{drop}
use Rattle.cp_unify.specs.Bindings.{as_substitution}
use Rattle.cp_pattern.proofs.Inside.{IsInsideLeft}
use Rattle.cp_pattern.proofs.outside.is_inside.Given as goal

-- the position is inside exactly where what is left of it is inside what is left of the term
abbrev pub invariant-loop-step : goal.invariant-loop-step
invariant-loop-step l = IsInsideLeft l.patterns (as_substitution l.from) l.term l.path l.rest (drop l.step-index l.path)
