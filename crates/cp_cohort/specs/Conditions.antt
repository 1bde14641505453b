-- The conditions on a release, event by event.
use Rattle.std.specs.Prelude.{◌≡◌, ℕ, ◌<◌, List, Some}
use Rattle.cp_model.specs.Term.{Term, apply_to}
use Rattle.cp_model.specs.Strand.{payload}
use Rattle.cp_model.specs.declared.strand.Event.{Event}
use Rattle.cp_model.specs.Bundle.{node_at}
use Rattle.cp_model.specs.Skeleton.{term_event_at}
use Rattle.cp_model.specs.declared.step.Step.{Step}
use Rattle.cp_pattern.specs.Outside.{IsFirstPositionOutside}
use Rattle.cp_cohort.specs.Releases.{Release, PartialSolution, came_by, IsInsideAlone}

-- The event at this index of the release's strand has this message, in which this is the first position outside the patterns.
pub record IsFirstOutsideAt (r : Release) (x : PartialSolution) (index : ℕ) (t : Term) (path : List Step) : Type 0 where
  pub event : Event Term
  pub there : term_event_at x.skeleton.strands (node_at r.strand index) ≡ Some event
  pub of_event : t ≡ payload event
  pub first : IsFirstPositionOutside r.patterns (came_by x) (apply_to (came_by x) r.critical) t path

-- Each earlier event of the release's strand carries the term inside the patterns alone.
abbrev pub HasNoneBefore : Release → PartialSolution → Type 0
HasNoneBefore r x = (i : ℕ) → i < r.index → IsInsideAlone r x i
