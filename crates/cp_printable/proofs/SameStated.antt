-- A skeleton that is the same as one of a problem up to names of variables and pairs that generate its order carries a
-- homomorphism from the problem, keeps what that states, and stands for the same standings of it.
use Rattle.std.proofs.Common.{◌≡◌, ◌≢◌, ◌<◌, ℕ, List, refl, sym, ap, ◌∙◌, subst, subst₂}
use Rattle.std.specs.Prelude.{map}
use Rattle.cp_lists.specs.Lists.{IsIn}
use Rattle.cp_lists.proofs.Mapped.{map_then}
use Rattle.cp_model.specs.Term.{AtomTerm, Term, variables_of_atom, Substitution, apply_to, apply_to_atom, composed, after, value_of}
use Rattle.cp_model.specs.declared.variable.Variable.{Variable}
use Rattle.cp_model.specs.declared.variable.Declaration.{Declaration}
use Rattle.cp_model.specs.Bundle.{node_at}
use Rattle.cp_model.specs.declared.node.OrderPair.{OrderPair}
use Rattle.cp_model.specs.Problem.{IsDeclared, variables_of_skeleton, variables_of_terms}
use Rattle.cp_model.specs.PointOfView.{StatesItself}
use Rattle.cp_model.specs.Skeleton.{UniqueAt, Skeleton}
use Rattle.cp_model.specs.Standing.{Standing}
use Rattle.cp_model.specs.Homomorphism.{IsHomomorphism, strand_in, substitution_by, map_from_problem, CarriesHomomorphism, FactorsThrough}
use Rattle.cp_model.specs.Stated.{unique_image, pair_image, IsImageOfOne, HasOwnAssumptions, KeepsStated}
use Rattle.cp_model.proofs.Images.{images_then, images_within}
use Rattle.cp_model.proofs.LawTerms.{value_after}
use Rattle.cp_model.proofs.LawEmbeddings.{then_homomorphism}
use Rattle.cp_theory.proofs.Mapped.{changed, agree_declared, carried_under}
use Rattle.cp_theory.proofs.StatedSteps.{non_declared, penetrator_non_declared, unique_declared, value_under}
use Rattle.cp_report.specs.UpToNames.{renaming, IsOneToOne, unique_renamed, IsSameSkeleton}
use Rattle.cp_report.proofs.SkeletonFits.{paired_length}
use Rattle.cp_printable.proofs.SameMaps.{with_terms, forth_homomorphism, from, map_returned}
use Rattle.cp_printable.proofs.SameRealised.{led_back}

module _ (s : Substitution) (k n : Skeleton) (same : IsSameSkeleton s k n) (variables : List Declaration) (problem : Skeleton) (own : StatesItself variables problem) (carries : CarriesHomomorphism problem k) where
  -- ---- the map from the problem

  -- the terms of the map of the first skeleton
  abbrev before : Substitution
  before = substitution_by k.from_problem.values

  -- and these terms, renamed
  abbrev after_all : Substitution
  after_all = substitution_by (map (apply_to s) k.from_problem.values)

  -- The map of the first skeleton, renamed, is a homomorphism to the second.
  by_renamed : IsHomomorphism problem n (record { strands = (map_from_problem k).strands; terms = after_all })
  by_renamed =
      changed problem n (map_from_problem k).strands (composed before s) after_all (λ x m. agree_declared variables problem k s own.maps carries x (own.maps.closed x m))
      (then_homomorphism problem k n (map_from_problem k) (with_terms s) carries.homomorphism (forth_homomorphism s k n same))

  -- The second skeleton carries a homomorphism from the problem.
  pub same_carries : CarriesHomomorphism problem n
  same_carries = record {
    homomorphism = subst₂ (λ (ss : List ℕ) (ts : List Term). IsHomomorphism problem n (record { strands = strand_in ss; terms = substitution_by ts })) same.mapped_strands same.mapped_values by_renamed;
    strands = subst (λ (ss : List ℕ). map (strand_in ss) problem.from_problem.strands ≡ ss) same.mapped_strands carries.strands;
    values = subst (λ (ts : List Term). map (apply_to (substitution_by ts)) problem.from_problem.values ≡ ts) same.mapped_values (carried_under variables problem k s own.maps carries).values;
  }

  -- ---- what the problem states

  -- The map of the second skeleton sends a value to where the map of the first sends it, renamed.
  value_goes : (v : AtomTerm) → ((x : Variable) → IsIn x (variables_of_atom v) → IsDeclared variables x) → apply_to_atom (map_from_problem n).terms v ≡ apply_to_atom s (apply_to_atom before v)
  value_goes v declared = ap (λ (ts : List Term). apply_to_atom (substitution_by ts) v) (sym same.mapped_values) ∙ value_under variables problem k s own carries v declared

  -- The same of a unique value.
  unique_goes : (u : UniqueAt) → ((x : Variable) → IsIn x (variables_of_atom u.value) → IsDeclared variables x) → unique_image (map_from_problem n) u ≡ unique_renamed s (unique_image (map_from_problem k) u)
  unique_goes u declared =
      let strands : n.from_problem.strands ≡ k.from_problem.strands = sym same.mapped_strands in
      λ i. record { value = value_goes u.value declared i; origin = node_at (strand_in (strands i) u.origin.strand) u.origin.index }

  -- The assumptions that the problem states itself are among those of the second skeleton.
  same_assumed : HasOwnAssumptions k → HasOwnAssumptions n
  same_assumed has =
      let had = k.from_problem.assumptions in
      let have = n.from_problem.assumptions in
      record {
        non = images_within (apply_to_atom s) had.non_originating k.assumptions.non_originating have.non_originating n.assumptions.non_originating same.own_assumptions.non same.assumptions.non has.non;
        penetrator_non = images_within (apply_to_atom s) had.penetrator_non_originating k.assumptions.penetrator_non_originating have.penetrator_non_originating n.assumptions.penetrator_non_originating
            same.own_assumptions.penetrator_non same.assumptions.penetrator_non has.penetrator_non;
        unique = images_within (unique_renamed s) had.uniquely_originating k.assumptions.uniquely_originating have.uniquely_originating n.assumptions.uniquely_originating same.own_assumptions.unique same.assumptions.unique has.unique;
      }

  -- The pair is the image of one that the problem states, and lies between different strands.
  abbrev IsOwnPair : List ℕ → OrderPair → Type 0
  IsOwnPair ss p = IsImageOfOne (pair_image (record { strands = strand_in ss; terms = before })) problem.from_problem.pairs p × (p.earlier.strand ≢ p.later.strand)

  -- The second skeleton has no other own pairs than the first,
  own_from : (p : OrderPair) → IsIn p n.from_problem.pairs → IsIn p k.from_problem.pairs
  own_from p m = let r = (same.own_pairs p).0 m in subst (λ (q : OrderPair). IsIn q k.from_problem.pairs) r.image r.listed

  -- and it has all of them.
  own_onto : (p : OrderPair) → IsIn p k.from_problem.pairs → IsIn p n.from_problem.pairs
  own_onto p m = (same.own_pairs p).1 (record { item = p; listed = m; image = refl })

  -- The second skeleton keeps what the problem states.
  pub same_stated : KeepsStated problem k → KeepsStated problem n
  same_stated keeps =
      let stated = problem.from_problem.assumptions in
      let had = k.from_problem.assumptions in
      let have = n.from_problem.assumptions in
      record {
        in_range = λ a m. subst (λ (l : ℕ). a < l) (paired_length s k.strands n.strands same.strands) (keeps.in_range a (subst (λ (ss : List ℕ). IsIn a ss) (sym same.mapped_strands) m));
        non = images_then (apply_to_atom before) (apply_to_atom s) (apply_to_atom (map_from_problem n).terms) stated.non_originating had.non_originating have.non_originating keeps.non same.own_assumptions.non
            (λ v i. value_goes v (non_declared variables problem own v i));
        penetrator_non = images_then (apply_to_atom before) (apply_to_atom s) (apply_to_atom (map_from_problem n).terms) stated.penetrator_non_originating had.penetrator_non_originating have.penetrator_non_originating
            keeps.penetrator_non same.own_assumptions.penetrator_non (λ v i. value_goes v (penetrator_non_declared variables problem own v i));
        unique = images_then (unique_image (map_from_problem k)) (unique_renamed s) (unique_image (map_from_problem n)) stated.uniquely_originating had.uniquely_originating have.uniquely_originating
            keeps.unique same.own_assumptions.unique (λ u i. unique_goes u (unique_declared variables problem own u i));
        assumed = same_assumed keeps.assumed;
        pairs = λ p. (
          λ m. subst (λ (ss : List ℕ). IsOwnPair ss p) same.mapped_strands ((keeps.pairs p).0 (own_from p m)),
          λ o. own_onto p ((keeps.pairs p).1 (subst (λ (ss : List ℕ). IsOwnPair ss p) (sym same.mapped_strands) o)),
        );
        ordered = λ p m. (same.order p.earlier p.later).0 (keeps.ordered p (own_from p m));
      }

-- ---- standings of the problem

module _ (number : Variable → ℕ) (xs : List Variable) (one : IsOneToOne number xs) (k n : Skeleton) (same : IsSameSkeleton (renaming number) k n) (within : (x : Variable) → IsIn x (variables_of_skeleton k) → IsIn x xs)
    (values_within : (x : Variable) → IsIn x (variables_of_terms k.from_problem.values) → IsIn x xs) where
  -- A standing of the problem that factors through the first skeleton factors through the second.
  pub same_factors : (problem : Skeleton) (h v : Standing) → FactorsThrough problem h k v → FactorsThrough problem h n (led_back number xs one k n same within v)
  same_factors problem h v factors = record {
    strands = factors.strands ∙ ap (map v.nodes) same.mapped_strands;
    values = factors.values ∙ ap (map (value_of v.values)) (sym (map_returned number xs one k n same within values_within))
        ∙ sym (map_then (apply_to (from number xs one k n same within)) (value_of v.values) (value_of (after v.values (from number xs one k n same within))) (value_after v.values (from number xs one k n same within)) n.from_problem.values);
  }
