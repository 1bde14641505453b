-- A skeleton that states itself keeps what it states.
use Rattle.std.proofs.Common.{◌≡◌, ◌↔◌, ℕ, suc, ◌<◌, ◌+◌, List, [], ◌∷◌, length, refl, sym, ap, subst, arith}
use Rattle.cp_lists.specs.Lists.{IsIn, here, there}
use Rattle.cp_model.specs.Term.{apply_to_atom}
use Rattle.cp_model.specs.Identity.{unchanged}
use Rattle.cp_model.specs.Strand.{Declaration}
use Rattle.cp_model.specs.Skeleton.{Skeleton}
use Rattle.cp_model.specs.declared.node.OrderPair.{OrderPair}
use Rattle.cp_model.specs.Homomorphism.{SkeletonMap, map_from_problem}
use Rattle.cp_model.specs.Problem.{numbers_from}
use Rattle.cp_model.specs.PointOfView.{StatesItself}
use Rattle.cp_model.specs.Stated.{unique_image, pair_image, IsImageOfOne, AreImages, KeepsStated}
use Rattle.cp_model.proofs.Images.{own_images}
use Rattle.cp_model.proofs.LawTerms.{atom_unchanged}
use Rattle.cp_model.proofs.LawEmbeddings.{same_map}
use Rattle.cp_model.proofs.OwnOrder.{own_before}
use Rattle.cp_model.proofs.SingleMaps.{own_map}

below : {A : Type 0} (n : ℕ) (xs : List A) (s : ℕ) → IsIn s (numbers_from n xs) → s < n + length xs
below n [] s i = elim i [ ]
below n (x ∷ xs) s here = omega arith
below n (x ∷ xs) s (there i) = let l : s < suc n + length xs = below (suc n) xs s i in omega (arith, l)

pub numbers_below : {A : Type 0} (xs : List A) (s : ℕ) → IsIn s (numbers_from 0 xs) → s < length xs
numbers_below xs s i = let l : s < 0 + length xs = below 0 xs s i in omega (arith, l)

module _ (variables : List Declaration) (k : Skeleton) (own : StatesItself variables k) where
  still : same_map ≡ map_from_problem k
  still = sym (own_map variables k own.maps)

  pairs_stay : (p : OrderPair) → IsIn p k.from_problem.pairs ↔ (IsImageOfOne (pair_image same_map) k.from_problem.pairs p × (p.earlier.strand ≡ p.later.strand → ⊥))
  pairs_stay p = (
    λ i. (record { item = p; listed = i; image = refl }, own.ordered.between p i),
    λ r. let h = r.0 in subst (λ q. IsIn q k.from_problem.pairs) h.image h.listed,
  )

  -- It keeps what it states.
  pub keeps_its_own : KeepsStated k k
  keeps_its_own = record {
    in_range = λ s i. numbers_below k.strands s (subst (IsIn s) own.maps.strands i);
    non = subst (λ (f : SkeletonMap). AreImages (apply_to_atom f.terms) k.from_problem.assumptions.non_originating k.from_problem.assumptions.non_originating) still (own_images (apply_to_atom unchanged) k.from_problem.assumptions.non_originating atom_unchanged);
    penetrator_non = subst (λ (f : SkeletonMap). AreImages (apply_to_atom f.terms) k.from_problem.assumptions.penetrator_non_originating k.from_problem.assumptions.penetrator_non_originating) still (own_images (apply_to_atom unchanged) k.from_problem.assumptions.penetrator_non_originating atom_unchanged);
    unique = subst (λ (f : SkeletonMap). AreImages (unique_image f) k.from_problem.assumptions.uniquely_originating k.from_problem.assumptions.uniquely_originating) still
        (own_images (unique_image same_map) k.from_problem.assumptions.uniquely_originating (λ u. ap (λ v. record { value = v; origin = u.origin }) (atom_unchanged u.value)));
    assumed = own.assumed;
    pairs = subst (λ (f : SkeletonMap). (p : OrderPair) → IsIn p k.from_problem.pairs ↔ (IsImageOfOne (pair_image f) k.from_problem.pairs p × (p.earlier.strand ≡ p.later.strand → ⊥))) still pairs_stay;
    ordered = own_before k own.ordered;
  }
