use Rattle.std.proofs.Common.{take}
use Rattle.cp_cohort.proofs.ListenerChildren.{IsHeardSoFar}
use Rattle.cp_cohort.proofs.listeners.heard.Given as goal

abbrev pub invariant-loop-pattern : goal.invariant-loop-pattern
invariant-loop-pattern l = IsHeardSoFar l.guarded_test (take l.pattern-index l.patterns) l.terms.items
