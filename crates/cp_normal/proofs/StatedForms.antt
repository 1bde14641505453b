-- A normal form of a skeleton that keeps what its problem states keeps it too.
use Rattle.std.proofs.Common.{List, sym, subst, inl}
use Rattle.cp_model.specs.declared.variable.Declaration.{Declaration}
use Rattle.cp_model.specs.Skeleton.{Skeleton}
use Rattle.cp_model.specs.PointOfView.{StatesItself}
use Rattle.cp_model.specs.Homomorphism.{CarriesHomomorphism}
use Rattle.cp_model.specs.Stated.{KeepsStated}
use Rattle.cp_model.proofs.StatedStays.{stated_stays}
use Rattle.cp_theory.specs.Normal.{skeleton_under}
use Rattle.cp_theory.proofs.StatedSteps.{stated_under, stated_with_pairs}
use Rattle.cp_collapse.specs.SameSkeletons.{SaysTheSame}
use Rattle.cp_normal.specs.NormalForms.{NarrowsTo, none, one, IsNormalFormOf}
use Rattle.cp_collapse.proofs.SameStrands.{as_many}
use Rattle.cp_collapse.proofs.SameFacts.{same_assumptions, same_before}
use Rattle.cp_normal.proofs.Homomorphic.{narrowed_carries}

same_keeps : (problem k l : Skeleton) → SaysTheSame k l → KeepsStated problem k → KeepsStated problem l
same_keeps problem k l s keeps =
    stated_stays problem k l s.from_problem (as_many s.strands) (same_assumptions k l s) (λ x y b. same_before k l s b) keeps

module _ (variables : List Declaration) (problem : Skeleton) (own : StatesItself variables problem) where
  narrows_keeps : {k l : Skeleton} → NarrowsTo k l → CarriesHomomorphism problem k → KeepsStated problem k → KeepsStated problem l
  narrows_keeps none c keeps = keeps
  narrows_keeps {k} (one {l = m} s p) c keeps =
      narrows_keeps p (narrowed_carries variables problem own.maps k m s c) (same_keeps problem (skeleton_under s.unifier k) m s.same (stated_under variables problem k s.unifier own c keeps))

  pub form_keeps : (k r : Skeleton) → IsNormalFormOf k r → CarriesHomomorphism problem k → KeepsStated problem k → KeepsStated problem r
  form_keeps k r f c keeps =
      subst (KeepsStated problem) (sym f.same) (stated_with_pairs problem f.narrowed r.pairs (λ p i. (f.pairs p).1 (inl i)) (narrows_keeps f.by_steps c keeps))
