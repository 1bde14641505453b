use Rattle.std.proofs.Common.{◌↔◌, ◌≤◌}
use Rattle.cp_term.specs.Size.{term_size}
use Rattle.cp_theory.specs.Critical.{IsComponent}
use Rattle.cp_pattern.proofs.component.+is_component.Given as goal

abbrev pub decreases-is_component : goal.decreases-is_component
decreases-is_component l = term_size l.whole.now

-- whether it is a component of the rest is all that is left to decide
abbrev pub invariant-loop-left : goal.invariant-loop-left
invariant-loop-left l = (term_size l.rest ≤ term_size l.whole) × (IsComponent l.part l.rest ↔ IsComponent l.part l.whole)

abbrev pub decreases-loop-left : goal.decreases-loop-left
decreases-loop-left l = term_size l.rest
