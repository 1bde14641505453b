use Rattle.std.proofs.Common.{◌≡◌, length}
use Rattle.cp_model.specs.Skeleton.{Skeleton}
use Rattle.cp_general.specs.Fit.{IsFit}
use Rattle.cp_general.specs.ProgramSteps.{ComesBySteps}
use Rattle.cp_general.proofs.generalisation.deleted.Given as goal

abbrev pub invariant-loop-left : goal.invariant-loop-left
invariant-loop-left l = ((k : Skeleton) → ComesBySteps k l.fn.first → ComesBySteps k l.left) × (l.left.variables ≡ l.fn.first.variables) × (IsFit l.fn.first → IsFit l.left)

abbrev pub decreases-loop-left : goal.decreases-loop-left
decreases-loop-left l = length l.left.strands
