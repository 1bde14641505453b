-- What a skeleton generalises to is sound where the skeleton is, it is fit, it embeds in the skeleton, and no step applies to it.
use Rattle.std.proofs.Common.{◌≡◌, ℕ, List, ap, ◌∙◌}
use Rattle.cp_model.specs.Strand.{Protocol}
use Rattle.cp_model.specs.declared.variable.Declaration.{Declaration}
use Rattle.cp_model.specs.declared.node.OrderPair.{OrderPair}
use Rattle.cp_model.specs.Skeleton.{Skeleton, IsSkeleton}
use Rattle.cp_model.specs.Homomorphism.{Embeds, CarriesHomomorphism}
use Rattle.cp_model.specs.PointOfView.{HasDeclaredVariables, IsPointOfView}
use Rattle.cp_model.specs.Stated.{KeepsStated}
use Rattle.cp_model.specs.Realisation.{KeepsAssumptions}
use Rattle.cp_model.specs.Standing.{IsRealised}
use Rattle.cp_model.proofs.LawEmbeddings.{embeds_then}
use Rattle.cp_theory.proofs.Realised.{realised}
use Rattle.cp_normal.proofs.FormSkeletons.{normal_keeps_assumptions}
use Rattle.cp_roots.specs.Roots.{in_report_order}
use Rattle.cp_roots.proofs.InReportOrder.{skeleton_listed, carries_listed, stated_listed, declared_listed}
use Rattle.cp_general.specs.Fit.{IsFit}
use Rattle.cp_general.specs.Steps.{Deletes, Weakens}
use Rattle.cp_general.specs.Generalisation.{IsMaximallyGeneral, StepsTo, deletes, drops, GeneralisesTo, last_step, next_step}
use Rattle.cp_general.proofs.DeletedStrands.{deleted_is_skeleton, deleted_embeds, deleted_declared}
use Rattle.cp_general.proofs.DroppedPairs.{dropped_is_skeleton, dropped_embeds, dropped_declared}
use Rattle.cp_general.proofs.FitInReportOrder.{fit_listed, listed_embeds}
use Rattle.cp_general.proofs.StatedWithoutStrand.{deleted_keeps_stated, deleted_carries}
use Rattle.cp_general.proofs.StatedWithoutPair.{dropped_keeps_stated, dropped_carries}

-- ---- fit, and most general

pub step_is_fit : {k g : Skeleton} → StepsTo k g → IsFit g
step_is_fit (deletes {h = h} del fit first) = fit_listed h fit
step_is_fit (drops none drop fit first) = fit

pub is_fit : {k g : Skeleton} → GeneralisesTo k g → IsFit g
is_fit (last_step s most) = step_is_fit s
is_fit (next_step s rest) = is_fit rest

pub is_most_general : {k g : Skeleton} → GeneralisesTo k g → IsMaximallyGeneral g
is_most_general (last_step s most) = most
is_most_general (next_step s rest) = is_most_general rest

-- ---- skeletons that embed

step_embeds : {k g : Skeleton} → StepsTo k g → Embeds g k
step_embeds {k} (deletes {d = d} {h = h} del fit first) = embeds_then (in_report_order h) h k (listed_embeds h) (deleted_embeds d k h del)
step_embeds {k} (drops {p = p} {h = h} none drop fit first) = dropped_embeds p k h drop

pub embeds_back : {k g : Skeleton} → GeneralisesTo k g → Embeds g k
embeds_back (last_step s most) = step_embeds s
embeds_back {k} {g} (next_step {h = h} s rest) = embeds_then g h k (embeds_back rest) (step_embeds s)

-- ---- what a step keeps: what is kept when a strand is deleted, when a pair is dropped, and when assumptions are listed in order

module _ (P : Skeleton → Type 0) (in_order : (h : Skeleton) → P h → P (in_report_order h)) (deleted : (d : ℕ) (k h : Skeleton) → Deletes d k h → P k → P h) (dropped : (p : OrderPair) (k h : Skeleton) → Weakens p k h → P k → P h) where
  step_keeps : {k g : Skeleton} → StepsTo k g → P k → P g
  step_keeps {k} (deletes {d = d} {h = h} del fit first) it = in_order h (deleted d k h del it)
  step_keeps {k} (drops {p = p} {h = h} none drop fit first) it = dropped p k h drop it

  way_keeps : {k g : Skeleton} → GeneralisesTo k g → P k → P g
  way_keeps (last_step s most) it = step_keeps s it
  way_keeps (next_step s rest) it = way_keeps rest (step_keeps s it)

module _ (protocol : Protocol) where
  pub is_skeleton : {k g : Skeleton} → GeneralisesTo k g → IsSkeleton protocol k → IsSkeleton protocol g
  is_skeleton r it =
      way_keeps (IsSkeleton protocol) (λ h sk. skeleton_listed h protocol sk) (λ d k h del sk. deleted_is_skeleton d k h del protocol sk) (λ p k h drop sk. dropped_is_skeleton p k h drop protocol sk) r it

  pub keeps_assumptions : {k g : Skeleton} → GeneralisesTo k g → IsSkeleton protocol k → KeepsAssumptions g
  keeps_assumptions {k} {g} r sk = normal_keeps_assumptions protocol g (is_skeleton r sk) (is_fit r).normal

  pub is_realised : {k g : Skeleton} → GeneralisesTo k g → IsSkeleton protocol k → IsRealised protocol g
  is_realised {k} {g} r sk = realised protocol g (is_skeleton r sk) (keeps_assumptions r sk) (is_fit r).realised

-- ---- declared variables

module _ (variables : List Declaration) where
  pub are_declared : {k g : Skeleton} → GeneralisesTo k g → HasDeclaredVariables variables k → HasDeclaredVariables variables g
  are_declared r it =
      way_keeps (HasDeclaredVariables variables) (λ h declared. declared_listed h variables declared) (λ d k h del declared. deleted_declared d k h del variables declared)
      (λ p k h drop declared. dropped_declared p k h drop variables declared) r it

  -- A generalisation declares what the skeleton does.
  pub same_table : {k g : Skeleton} → GeneralisesTo k g → k.variables ≡ variables → g.variables ≡ variables
  same_table r it =
      way_keeps (λ (x : Skeleton). x.variables ≡ variables) (λ h is. is) (λ d k h del is. del.variables ∙ is) (λ p k h drop is. ap (λ (x : Skeleton). x.variables) drop.same ∙ is) r it

-- ---- the way from the problem

-- The skeleton is one over the protocol, carries a homomorphism from the problem, and keeps what that states.
pub record IsSoundFrom (protocol : Protocol) (problem k : Skeleton) : Type 0 where
  pub skeleton : IsSkeleton protocol k
  pub carries : CarriesHomomorphism problem k
  pub stated : KeepsStated problem k

module _ (protocol : Protocol) (variables : List Declaration) (problem : Skeleton) (sp : IsSkeleton protocol problem) (own : IsPointOfView variables problem) where
  listed_is_sound : (h : Skeleton) → IsSoundFrom protocol problem h → IsSoundFrom protocol problem (in_report_order h)
  listed_is_sound h s = record { skeleton = skeleton_listed h protocol s.skeleton; carries = carries_listed h problem s.carries; stated = stated_listed h problem s.stated }

  deleted_is_sound : (d : ℕ) (k h : Skeleton) → Deletes d k h → IsSoundFrom protocol problem k → IsSoundFrom protocol problem h
  deleted_is_sound d k h del s = record {
    skeleton = deleted_is_skeleton d k h del protocol s.skeleton;
    carries = deleted_carries protocol variables problem k h sp own s.carries s.stated d del s.skeleton;
    stated = deleted_keeps_stated protocol variables problem k h sp own s.carries s.stated d del;
  }

  dropped_is_sound : (p : OrderPair) (k h : Skeleton) → Weakens p k h → IsSoundFrom protocol problem k → IsSoundFrom protocol problem h
  dropped_is_sound p k h drop s = record {
    skeleton = dropped_is_skeleton p k h drop protocol s.skeleton;
    carries = dropped_carries protocol variables problem k h sp own s.carries s.stated p drop s.skeleton;
    stated = dropped_keeps_stated protocol variables problem k h sp own s.carries s.stated p drop;
  }

  pub sound_from : {k g : Skeleton} → GeneralisesTo k g → IsSoundFrom protocol problem k → IsSoundFrom protocol problem g
  sound_from r it = way_keeps (IsSoundFrom protocol problem) listed_is_sound deleted_is_sound dropped_is_sound r it
