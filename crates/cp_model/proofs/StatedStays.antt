-- A skeleton that has more than another, and its way from the problem, keeps what the problem states where the other does.
use Rattle.std.proofs.Common.{◌≡◌, ◌↔◌, ◌≤◌, length, sym, subst, lt_of_lt_of_le}
use Rattle.cp_lists.specs.Lists.{IsIn}
use Rattle.cp_model.specs.Term.{AtomTerm, apply_to_atom}
use Rattle.cp_model.specs.declared.node.Node.{Node}
use Rattle.cp_model.specs.Skeleton.{UniqueAt, FromProblem, Skeleton, Before}
use Rattle.cp_model.specs.declared.node.OrderPair.{OrderPair}
use Rattle.cp_model.specs.Homomorphism.{SkeletonMap, substitution_by, strand_in}
use Rattle.cp_model.specs.Stated.{unique_image, pair_image, IsImageOfOne, AreImages, HasOwnAssumptions, KeepsStated}

-- Each assumption of the one is one of the other.
pub record HasAssumptionsOf (k l : Skeleton) : Type 0 where
  pub non : (v : AtomTerm) → IsIn v k.assumptions.non_originating → IsIn v l.assumptions.non_originating
  pub penetrator_non : (v : AtomTerm) → IsIn v k.assumptions.penetrator_non_originating → IsIn v l.assumptions.penetrator_non_originating
  pub unique : (u : UniqueAt) → IsIn u k.assumptions.uniquely_originating → IsIn u l.assumptions.uniquely_originating

-- The other has the problem's own assumptions too.
pub own_stays : (k l : Skeleton) → k.from_problem ≡ l.from_problem → HasAssumptionsOf k l → HasOwnAssumptions k → HasOwnAssumptions l
own_stays k l same has own = record {
  non = λ v i. has.non v (own.non v (subst (λ (f : FromProblem). IsIn v f.assumptions.non_originating) (sym same) i));
  penetrator_non = λ v i. has.penetrator_non v (own.penetrator_non v (subst (λ (f : FromProblem). IsIn v f.assumptions.penetrator_non_originating) (sym same) i));
  unique = λ u i. has.unique u (own.unique u (subst (λ (f : FromProblem). IsIn u f.assumptions.uniquely_originating) (sym same) i));
}

abbrev map_of : FromProblem → SkeletonMap
map_of f = record { strands = strand_in f.strands; terms = substitution_by f.values }

module _ (problem k l : Skeleton) (same : k.from_problem ≡ l.from_problem) (more : length k.strands ≤ length l.strands) (has : HasAssumptionsOf k l)
    (before : (x y : Node) → Before k x y → Before l x y) (keeps : KeepsStated problem k) where
  back : l.from_problem ≡ k.from_problem
  back = sym same

  pub stated_stays : KeepsStated problem l
  stated_stays = record {
    in_range = λ s i. lt_of_lt_of_le (keeps.in_range s (subst (λ (f : FromProblem). IsIn s f.strands) back i)) more;
    non = subst (λ (f : FromProblem). AreImages (apply_to_atom (map_of f).terms) problem.from_problem.assumptions.non_originating f.assumptions.non_originating) same keeps.non;
    penetrator_non = subst (λ (f : FromProblem). AreImages (apply_to_atom (map_of f).terms) problem.from_problem.assumptions.penetrator_non_originating f.assumptions.penetrator_non_originating) same keeps.penetrator_non;
    unique = subst (λ (f : FromProblem). AreImages (unique_image (map_of f)) problem.from_problem.assumptions.uniquely_originating f.assumptions.uniquely_originating) same keeps.unique;
    assumed = own_stays k l same has keeps.assumed;
    pairs = subst (λ (f : FromProblem). (p : OrderPair) → IsIn p f.pairs ↔ (IsImageOfOne (pair_image (map_of f)) problem.from_problem.pairs p × (p.earlier.strand ≡ p.later.strand → ⊥))) same keeps.pairs;
    ordered = λ p i. before p.earlier p.later (keeps.ordered p (subst (λ (f : FromProblem). IsIn p f.pairs) back i));
  }
