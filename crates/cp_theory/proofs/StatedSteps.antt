-- A skeleton that keeps what its problem states keeps it under a substitution, and with more pairs.
use Rattle.std.proofs.Common.{◌≡◌, ◌<◌, ◌++◌, ℕ, List, length, map, refl, sym, ◌∙◌, subst, le_refl}
use Rattle.std.proofs.lemmas.List.{length-map}
use Rattle.cp_lists.specs.Lists.{IsIn}
use Rattle.cp_model.specs.Term.{AtomTerm, variables_of_atom, Substitution, apply_to_atom, composed}
use Rattle.cp_model.specs.declared.variable.Variable.{Variable}
use Rattle.cp_model.specs.declared.variable.Declaration.{Declaration}
use Rattle.cp_model.specs.Skeleton.{UniqueAt, Skeleton}
use Rattle.cp_model.specs.declared.node.OrderPair.{OrderPair}
use Rattle.cp_model.specs.Problem.{variables_of_strands, variables_of_atoms, variables_of_uniques, IsDeclared}
use Rattle.cp_model.specs.PointOfView.{StatesItself}
use Rattle.cp_model.specs.Homomorphism.{mapped, substitution_by, map_from_problem, CarriesHomomorphism}
use Rattle.cp_model.specs.Stated.{unique_image, HasOwnAssumptions, KeepsStated}
use Rattle.cp_lists.proofs.Members.{in_append_left, in_append_right}
use Rattle.cp_model.proofs.LawTerms.{atom_composed}
use Rattle.cp_model.proofs.Images.{images_then, mapped_images, images_within}
use Rattle.cp_model.proofs.StatedStays.{stated_stays}
use Rattle.cp_theory.specs.Normal.{with_pairs, strand_under, unique_under, skeleton_under}
use Rattle.cp_model.proofs.OccurringVariables.{in_atoms, in_uniques}
use Rattle.cp_model.proofs.LawAgreement.{agree_atom}
use Rattle.cp_theory.proofs.Mapped.{agree_declared, before_under, before_more}

-- The variables of what a problem states itself are declared.
module _ (variables : List Declaration) (problem : Skeleton) (own : StatesItself variables problem) where
  pub non_declared : (v : AtomTerm) → IsIn v problem.from_problem.assumptions.non_originating → (x : Variable) → IsIn x (variables_of_atom v) → IsDeclared variables x
  non_declared v i x j =
      own.maps.closed x (in_append_right (variables_of_strands problem.strands) (in_append_left (variables_of_uniques problem.assumptions.uniquely_originating)
      (in_append_left (variables_of_atoms problem.assumptions.penetrator_non_originating) (in_atoms problem.assumptions.non_originating v x (own.assumed.non v i) j))))

  pub penetrator_non_declared : (v : AtomTerm) → IsIn v problem.from_problem.assumptions.penetrator_non_originating → (x : Variable) → IsIn x (variables_of_atom v) → IsDeclared variables x
  penetrator_non_declared v i x j =
      own.maps.closed x (in_append_right (variables_of_strands problem.strands) (in_append_left (variables_of_uniques problem.assumptions.uniquely_originating)
      (in_append_right (variables_of_atoms problem.assumptions.non_originating) (in_atoms problem.assumptions.penetrator_non_originating v x (own.assumed.penetrator_non v i) j))))

  pub unique_declared : (u : UniqueAt) → IsIn u problem.from_problem.assumptions.uniquely_originating → (x : Variable) → IsIn x (variables_of_atom u.value) → IsDeclared variables x
  unique_declared u i x j =
      own.maps.closed x (in_append_right (variables_of_strands problem.strands) (in_append_right (variables_of_atoms problem.assumptions.non_originating ++ variables_of_atoms problem.assumptions.penetrator_non_originating)
      (in_uniques problem.assumptions.uniquely_originating u x (own.assumed.unique u i) j)))

-- The assumptions that the problem states itself are among the skeleton's under a substitution too.
pub assumed_under : (s : Substitution) (k : Skeleton) → HasOwnAssumptions k → HasOwnAssumptions (skeleton_under s k)
assumed_under s k own =
    let had = k.from_problem.assumptions in
    record {
      non = images_within (apply_to_atom s) had.non_originating k.assumptions.non_originating (map (apply_to_atom s) had.non_originating) (map (apply_to_atom s) k.assumptions.non_originating)
          (mapped_images (apply_to_atom s) had.non_originating) (mapped_images (apply_to_atom s) k.assumptions.non_originating) own.non;
      penetrator_non = images_within (apply_to_atom s) had.penetrator_non_originating k.assumptions.penetrator_non_originating (map (apply_to_atom s) had.penetrator_non_originating) (map (apply_to_atom s) k.assumptions.penetrator_non_originating)
          (mapped_images (apply_to_atom s) had.penetrator_non_originating) (mapped_images (apply_to_atom s) k.assumptions.penetrator_non_originating) own.penetrator_non;
      unique = images_within (unique_under s) had.uniquely_originating k.assumptions.uniquely_originating (map (unique_under s) had.uniquely_originating) (map (unique_under s) k.assumptions.uniquely_originating)
          (mapped_images (unique_under s) had.uniquely_originating) (mapped_images (unique_under s) k.assumptions.uniquely_originating) own.unique;
    }

module _ (variables : List Declaration) (problem k : Skeleton) (s : Substitution) (own : StatesItself variables problem) (carries : CarriesHomomorphism problem k) where
  abbrev before : Substitution
  before = substitution_by k.from_problem.values

  abbrev after_all : Substitution
  after_all = substitution_by (skeleton_under s k).from_problem.values

  -- The terms of the map, under the substitution, are those of the new map.
  pub value_under : (v : AtomTerm) → ((x : Variable) → IsIn x (variables_of_atom v) → IsDeclared variables x) → apply_to_atom after_all v ≡ apply_to_atom s (apply_to_atom before v)
  value_under v declared = sym (agree_atom (composed before s) after_all v (λ x i. agree_declared variables problem k s own.maps carries x (declared x i))) ∙ atom_composed before s v

  unique_goes : (u : UniqueAt) → ((x : Variable) → IsIn x (variables_of_atom u.value) → IsDeclared variables x) → unique_image (map_from_problem (skeleton_under s k)) u ≡ unique_under s (unique_image (map_from_problem k) u)
  unique_goes u declared = λ i. record { value = value_under u.value declared i; origin = mapped (map_from_problem k) u.origin }

  pub stated_under : KeepsStated problem k → KeepsStated problem (skeleton_under s k)
  stated_under keeps =
      let stated = problem.from_problem.assumptions in
      let had = k.from_problem.assumptions in
      record {
        in_range = λ a i. subst (λ (n : ℕ). a < n) (sym (length-map k.strands (strand_under s))) (keeps.in_range a i);
        non = images_then (apply_to_atom before) (apply_to_atom s) (apply_to_atom after_all) stated.non_originating had.non_originating (map (apply_to_atom s) had.non_originating) keeps.non
            (mapped_images (apply_to_atom s) had.non_originating) (λ v i. value_under v (non_declared variables problem own v i));
        penetrator_non = images_then (apply_to_atom before) (apply_to_atom s) (apply_to_atom after_all) stated.penetrator_non_originating had.penetrator_non_originating (map (apply_to_atom s) had.penetrator_non_originating)
            keeps.penetrator_non (mapped_images (apply_to_atom s) had.penetrator_non_originating) (λ v i. value_under v (penetrator_non_declared variables problem own v i));
        unique = images_then (unique_image (map_from_problem k)) (unique_under s) (unique_image (map_from_problem (skeleton_under s k))) stated.uniquely_originating had.uniquely_originating (map (unique_under s) had.uniquely_originating)
            keeps.unique (mapped_images (unique_under s) had.uniquely_originating) (λ u i. unique_goes u (unique_declared variables problem own u i));
        assumed = assumed_under s k keeps.assumed;
        pairs = keeps.pairs;
        ordered = λ p i. before_under s k (keeps.ordered p i);
      }

pub stated_with_pairs : (problem k : Skeleton) (pairs : List OrderPair) → ((p : OrderPair) → IsIn p k.pairs → IsIn p pairs) → KeepsStated problem k → KeepsStated problem (with_pairs k pairs)
stated_with_pairs problem k pairs all keeps =
    stated_stays problem k (with_pairs k pairs) refl (le_refl (length k.strands)) (record { non = λ v i. i; penetrator_non = λ v i. i; unique = λ u i. i }) (λ x y b. before_more problem k pairs all b) keeps
