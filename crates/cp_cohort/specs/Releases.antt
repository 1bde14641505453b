-- A critical term that an event of a strand is to release, and the two conditions on it: the position at which the event
-- carries the term is outside the patterns, and each earlier event of the strand carries it inside them alone.
use Rattle.std.specs.Prelude.{◌≡◌, ℕ, ◌<◌, List, Some}
use Rattle.cp_model.specs.Term.{Term, Substitution, apply_to}
use Rattle.cp_model.specs.Strand.{payload}
use Rattle.cp_model.specs.declared.strand.Event.{Event}
use Rattle.cp_model.specs.Bundle.{node_at}
use Rattle.cp_model.specs.Skeleton.{term_event_at}
use Rattle.cp_model.specs.Tree.{Pattern}
use Rattle.cp_model.specs.declared.step.Step.{Step}
use Rattle.cp_unify.specs.Bindings.{as_substitution}
use Rattle.cp_theory.specs.Inside.{IsInside, CarriesInsideAlone}
use Rattle.cp_pattern.specs.Outside.{IsFirstPositionOutside}
-- A partial solution: a skeleton, whose table has the variables that were made so far, and the bindings by which it came from the
-- first one, over whose variables the patterns and the critical term are.
pub use Rattle.cp_cohort.specs.declared.release.PartialSolution.{PartialSolution}

-- Under which patterns which term is to be released, and at which position of which event of which strand.
pub record Release : Type 0 where
  pub patterns : List Pattern
  pub critical : Term
  pub strand : ℕ
  pub index : ℕ
  pub path : List Step

-- The substitution by which a partial solution came.
abbrev pub came_by : PartialSolution → Substitution
came_by x = as_substitution x.substitution

-- The position of the release is inside the patterns.
pub record IsReleasedInside (r : Release) (x : PartialSolution) : Type 0 where
  pub event : Event Term
  pub there : term_event_at x.skeleton.strands (node_at r.strand r.index) ≡ Some event
  pub inside : IsInside r.patterns (came_by x) (payload event) r.path

-- The event at this index of the release's strand, if there is one, carries the term inside the patterns alone.
abbrev pub IsInsideAlone : Release → PartialSolution → ℕ → Type 0
IsInsideAlone r x i = (event : Event Term) → term_event_at x.skeleton.strands (node_at r.strand i) ≡ Some event → CarriesInsideAlone r.patterns (came_by x) (apply_to (came_by x) r.critical) (payload event)

-- The first occurrence of the term outside the patterns in the earlier events of the release's strand, by event and then by
-- position, is at this position of this term, which is that of an event.
pub record IsFirstOutside (r : Release) (x : PartialSolution) (t : Term) (path : List Step) : Type 0 where
  pub index : ℕ
  pub earlier : index < r.index
  pub event : Event Term
  pub there : term_event_at x.skeleton.strands (node_at r.strand index) ≡ Some event
  pub of_event : t ≡ payload event
  pub inside_before : (i : ℕ) → i < index → IsInsideAlone r x i
  pub first : IsFirstPositionOutside r.patterns (came_by x) (apply_to (came_by x) r.critical) t path

-- Both conditions hold.
pub record MeetsBoth (r : Release) (x : PartialSolution) : Type 0 where
  pub outside : IsReleasedInside r x → ⊥
  pub inside_before : (i : ℕ) → i < r.index → IsInsideAlone r x i
