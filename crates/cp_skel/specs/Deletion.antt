-- Skeletons without one of their strands.
use Rattle.std.specs.Prelude.{◌≡◌, ◌≢◌, ◌↔◌, ◌⊎◌, ℕ, zero, suc, List, [], ◌∷◌, Some, map}
use Rattle.cp_lists.specs.Lists.{item_at, IsIn}
use Rattle.cp_model.specs.Term.{AtomTerm}
use Rattle.cp_model.specs.Bindings.{Binding}
use Rattle.cp_model.specs.Strand.{Role}
use Rattle.cp_model.specs.Bundle.{node_at}
use Rattle.cp_model.specs.declared.node.Node.{Node}
use Rattle.cp_model.specs.Skeleton.{SkeletonStrand, instance, UniqueAt, Assumptions, FromProblem, Skeleton, Before}
use Rattle.cp_model.specs.declared.node.OrderPair.{OrderPair}
use Rattle.cp_model.specs.GivenAssumptions.{IsGivenFrom}

-- The number of a strand once strand number d is gone: those above d fall by one.
abbrev pub renumbered : ℕ → ℕ → ℕ
renumbered d zero = zero
renumbered zero (suc s) = s
renumbered (suc d) (suc s) = suc (renumbered d s)

-- The same of the strands of nodes, pairs and recorded origins.
abbrev pub node_renumbered : ℕ → Node → Node
node_renumbered d n = node_at (renumbered d n.strand) n.index

abbrev pub pair_renumbered : ℕ → OrderPair → OrderPair
pair_renumbered d p = record { earlier = node_renumbered d p.earlier; later = node_renumbered d p.later }

abbrev pub unique_renumbered : ℕ → UniqueAt → UniqueAt
unique_renumbered d u = record { value = u.value; origin = node_renumbered d u.origin }

-- One of the pair's nodes is on strand number d.
abbrev pub IsPairOn : ℕ → OrderPair → Type 0
IsPairOn d p = (p.earlier.strand ≡ d) ⊎ (p.later.strand ≡ d)

-- The recorded origin is on strand number d.
abbrev pub IsOriginOn : ℕ → UniqueAt → Type 0
IsOriginOn d u = u.origin.strand ≡ d

-- The second list is the first without the items that are gone; the others are there in their order, each in its form.
pub data LeavesOut {A : Type 0} (gone : A → Type 0) (form : A → A) : List A → List A → Type 0 where
  all_left : LeavesOut gone form [] []
  is_gone : {x : A} {xs ys : List A} → gone x → LeavesOut gone form xs ys → LeavesOut gone form (x ∷ xs) ys
  is_left : {x : A} {xs ys : List A} → (gone x → ⊥) → LeavesOut gone form xs ys → LeavesOut gone form (x ∷ xs) (form x ∷ ys)

abbrev pub as_it_is : {A : Type 0} → A → A
as_it_is x = x

-- The strand is an instance that gives v, one of the atoms that its role states.
pub record GivesFrom (stated : Role → List AtomTerm) (strand : SkeletonStrand) (v : AtomTerm) : Type 0 where
  pub role : Role
  pub height : ℕ
  pub terms : List Binding
  pub is_instance : strand ≡ instance role height terms
  pub given : IsGivenFrom (stated role) role height terms v

-- Strand number s gives v.
pub record IsStatedAt (stated : Role → List AtomTerm) (strands : List SkeletonStrand) (s : ℕ) (v : AtomTerm) : Type 0 where
  pub strand : SkeletonStrand
  pub there_is : item_at strands s ≡ Some strand
  pub gives : GivesFrom stated strand v

-- A strand other than number d gives v.
pub record IsGivenElsewhere (stated : Role → List AtomTerm) (strands : List SkeletonStrand) (d : ℕ) (v : AtomTerm) : Type 0 where
  pub number : ℕ
  pub other : number ≢ d
  pub gives : IsStatedAt stated strands number v

-- An assumption is forgotten with strand number d: that strand gives it, no other does, and the problem's own
-- assumptions do not have it.
pub record IsForgotten (stated : Role → List AtomTerm) (strands : List SkeletonStrand) (own : List AtomTerm) (d : ℕ) (v : AtomTerm) : Type 0 where
  pub gave : IsStatedAt stated strands d v
  pub alone : IsGivenElsewhere stated strands d v → ⊥
  pub not_own : IsIn v own → ⊥

abbrev pub IsForgottenNon : Skeleton → ℕ → AtomTerm → Type 0
IsForgottenNon k = IsForgotten (λ role. role.non_originating) k.strands k.from_problem.assumptions.non_originating

abbrev pub IsForgottenPenetratorNon : Skeleton → ℕ → AtomTerm → Type 0
IsForgottenPenetratorNon k = IsForgotten (λ role. role.penetrator_non_originating) k.strands k.from_problem.assumptions.penetrator_non_originating

-- The assumptions of a skeleton without strand number d: what is forgotten with it is gone, and so are the unique
-- values with a recorded origin on it.
pub record ForgetsAssumptions (d : ℕ) (old : Skeleton) (new : Assumptions) : Type 0 where
  pub non : LeavesOut (IsForgottenNon old d) as_it_is old.assumptions.non_originating new.non_originating
  pub penetrator_non : LeavesOut (IsForgottenPenetratorNon old d) as_it_is old.assumptions.penetrator_non_originating new.penetrator_non_originating
  pub unique : LeavesOut (IsOriginOn d) (unique_renumbered d) old.assumptions.uniquely_originating new.uniquely_originating

-- The way from the problem to a skeleton without strand number d, to which no strand of the problem goes.
pub record KeepsFromProblem (d : ℕ) (old new : FromProblem) : Type 0 where
  pub strands : new.strands ≡ map (renumbered d) old.strands
  pub values : new.values ≡ old.values
  pub non : new.assumptions.non_originating ≡ old.assumptions.non_originating
  pub penetrator_non : new.assumptions.penetrator_non_originating ≡ old.assumptions.penetrator_non_originating
  pub unique : LeavesOut (IsOriginOn d) (unique_renumbered d) old.assumptions.uniquely_originating new.assumptions.uniquely_originating
  pub pairs : LeavesOut (IsPairOn d) (pair_renumbered d) old.pairs new.pairs

-- Of the nodes of the other strands each is before the same ones as it was.
abbrev pub KeepsOrderOfOthers : ℕ → Skeleton → Skeleton → Type 0
KeepsOrderOfOthers d old new = (x y : Node) → x.strand ≢ d → y.strand ≢ d → Before new (node_renumbered d x) (node_renumbered d y) ↔ Before old x y
