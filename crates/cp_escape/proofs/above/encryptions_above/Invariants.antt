use Rattle.std.proofs.Common.{◌≡◌, ◌++◌, map, drop}
use Rattle.cp_theory.specs.Above.{encryptions_above}
use Rattle.cp_escape.proofs.above.encryptions_above.Given as goal

abbrev pub invariant-loop-step : goal.invariant-loop-step
invariant-loop-step l = (map (λ e. e.now) l.encryptions.items ++ encryptions_above l.rest (drop l.step-index l.path)) ≡ encryptions_above l.message l.path
