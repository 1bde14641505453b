use Rattle.std.proofs.Common.{drop}
use Rattle.cp_unify.specs.Bindings.{as_substitution}
use Rattle.cp_pattern.proofs.Matched.{IsStillThere}
use Rattle.cp_pattern.proofs.pattern_matches.some_match.Given as goal

-- no pattern so far matches
abbrev pub invariant-loop-pattern : goal.invariant-loop-pattern
invariant-loop-pattern l = IsStillThere (as_substitution l.from) l.term l.patterns (drop l.pattern-index l.patterns)
