-- What an event that is to release the critical term asks of a skeleton: the position at which it carries the term is outside
-- the patterns, and each earlier event of its strand carries the term inside them alone.
use Rattle.std.specs.Prelude.{◌≡◌, ℕ, ◌<◌, List, Some}
use Rattle.cp_lists.specs.Lists.{IsIn}
use Rattle.cp_model.specs.Term.{Term, Assignment, after, Substitution, apply_to, composed}
use Rattle.cp_model.specs.Strand.{payload, Protocol}
use Rattle.cp_model.specs.declared.strand.Event.{Event}
use Rattle.cp_model.specs.Bundle.{node_at}
use Rattle.cp_model.specs.Skeleton.{term_event_at, Skeleton}
use Rattle.cp_model.specs.Derivable.{IsOnInstance}
use Rattle.cp_model.specs.Tree.{Pattern}
use Rattle.cp_model.specs.declared.step.Step.{Step}
use Rattle.cp_model.specs.Positions.{term_at}
use Rattle.cp_theory.specs.Normal.{skeleton_under}
use Rattle.cp_theory.specs.Inside.{IsInside, IsBroughtInside}
use Rattle.cp_theory.specs.Forms.{Form, KeepStandings, ReducesTo}
use Rattle.cp_theory.specs.FittingAssignments.{Fits}

-- The test of a release: over which protocol, for which skeleton, patterns and critical term, and at which position of which
-- event of which strand the term is to be released.
pub record ReleaseTest : Type 0 where
  pub protocol : Protocol
  pub first : Skeleton
  pub patterns : List Pattern
  pub critical : Term
  pub strand : ℕ
  pub index : ℕ
  pub path : List Step

-- The position at which the term is to be released is inside the patterns.
pub record IsTestReleasedInside (trial : ReleaseTest) (s : Substitution) (k : Skeleton) : Type 0 where
  pub on_instance : IsOnInstance k (node_at trial.strand trial.index)
  pub event : Event Term
  pub there : term_event_at k.strands (node_at trial.strand trial.index) ≡ Some event
  pub inside : IsInside trial.patterns s (payload event) trial.path

-- An earlier event of the strand carries the term.
pub record IsCarriedEarlier (trial : ReleaseTest) (s : Substitution) (k : Skeleton) : Type 0 where
  pub index : ℕ
  pub earlier : index < trial.index
  pub on_instance : IsOnInstance k (node_at trial.strand index)
  pub event : Event Term
  pub there : term_event_at k.strands (node_at trial.strand index) ≡ Some event
  pub path : List Step
  pub carried : term_at (payload event) path ≡ Some (apply_to s trial.critical)

-- The values bring that occurrence inside the patterns: they make some proper enclosing encryption equal to a pattern.
abbrev pub AreValuesInside : (trial : ReleaseTest) (s : Substitution) (k : Skeleton) → IsCarriedEarlier trial s k → Assignment → Type 0
AreValuesInside trial s k o g = IsBroughtInside trial.patterns (after g s) g (payload o.event) o.path

-- The test is solved for the skeleton k, which came from the first one by the substitution s, and what solves it is among
-- these. k reduces to them. Or the term would be released inside the patterns, so that nothing solves it. Or an earlier event
-- carries the term: whatever values bring it inside the patterns fit a substitution under which the test is solved. Or it is
-- solved for each of some forms that keep the standings of k.
pub data SolvesTest (trial : ReleaseTest) (ks : List Skeleton) : Substitution → Skeleton → Type 0 where
  settled : {s : Substitution} {k : Skeleton} → ReducesTo trial.protocol ks k → SolvesTest trial ks s k
  never : {s : Substitution} {k : Skeleton} → IsTestReleasedInside trial s k → SolvesTest trial ks s k
  branched : {s : Substitution} {k : Skeleton} (o : IsCarriedEarlier trial s k)
      (by : (g : Assignment) → AreValuesInside trial s k o g → Substitution) →
      ((g : Assignment) (inside : AreValuesInside trial s k o g) → Fits trial.first s k g (by g inside)) →
      ((g : Assignment) (inside : AreValuesInside trial s k o g) → SolvesTest trial ks (composed s (by g inside)) (skeleton_under (by g inside) k)) → SolvesTest trial ks s k
  normalised : {s : Substitution} {k : Skeleton} (forms : List Form) → KeepStandings trial.protocol k forms →
      ((form : Form) → IsIn form forms → SolvesTest trial ks (composed s form.substitution) form.skeleton) → SolvesTest trial ks s k
