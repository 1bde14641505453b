use Rattle.std.proofs.Common.{◌≡◌, length}
use Rattle.cp_model.specs.Skeleton.{Skeleton}
use Rattle.cp_general.specs.Fit.{IsFit}
use Rattle.cp_general.specs.ListedPairs.{ListsAdded, ListsOrder}
use Rattle.cp_general.specs.ProgramSteps.{WeakensFirst, IsReachedByWeakening}
use Rattle.cp_general.proofs.generalisation.dropped_of_all.Given as goal

abbrev pub invariant-loop-left : goal.invariant-loop-left
invariant-loop-left l = record {
  lists : ListsOrder l.left l.left.pairs;
  fit : IsFit l.left;
  added : ListsAdded l.left l.added;
  way : (first : Skeleton) → ((h : Skeleton) → WeakensFirst l.all h → IsReachedByWeakening first h) → IsReachedByWeakening first l.left;
  variables : l.left.variables ≡ l.all.variables;
}

abbrev pub decreases-loop-left : goal.decreases-loop-left
decreases-loop-left l = length l.left.pairs
