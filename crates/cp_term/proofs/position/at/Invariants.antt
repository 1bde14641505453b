use Rattle.std.proofs.Common.{◌≡◌, drop}
use Rattle.cp_model.specs.Positions.{term_at}
use Rattle.cp_term.proofs.position.at.Given as goal

-- what the rest has at the steps that are left is what the whole has at the path
abbrev pub invariant-loop-step : goal.invariant-loop-step
invariant-loop-step l = term_at l.rest (drop l.step-index l.step-items) ≡ term_at l.whole l.path
