use Rattle.std.proofs.Common.{◌≤◌}
use Rattle.cp_term.specs.Size.{term_size}
use Rattle.cp_term.proofs.term.Term.+term.Given as goal

abbrev pub decreases-drop : goal.decreases-drop
decreases-drop l = term_size l.self

abbrev pub invariant-loop-left : goal.invariant-loop-left
invariant-loop-left l = term_size l.self ≤ term_size l.initial.self
