-- What holds of each label that forms without misfits denote, and what is missing for it to be one that can be stated.
use Rattle.std.specs.Prelude.{◌≡◌, ◌≢◌, ◌↔◌, ℕ, ◌+◌, ◌<◌, ◌^◌, List, ◌++◌, length, Some}
use Rattle.cp_lists.specs.Lists.{item_at, IsIn}
use Rattle.cp_model.specs.Term.{AtomTerm, apply_to_atom}
use Rattle.cp_model.specs.declared.variable.Variable.{Variable}
use Rattle.cp_model.specs.declared.variable.Declaration.{Declaration}
use Rattle.cp_model.specs.declared.node.OrderPair.{OrderPair}
use Rattle.cp_model.specs.Homomorphism.{map_from_problem}
use Rattle.cp_model.specs.Problem.{IsDeclared}
use Rattle.cp_model.specs.Skeleton.{UniqueAt, Skeleton, Before}
use Rattle.cp_model.specs.Stated.{unique_image, pair_image, IsImageOfOne}
use Rattle.cp_model.specs.Tree.{Label, Tree}
use Rattle.cp_sexpr.specs.Syntax.{Forms}
use Rattle.cp_language.specs.Faults.{items_of}
use Rattle.cp_language.specs.Problems.{Problem}
use Rattle.cp_language.specs.Report.{occurring}
use Rattle.cp_report.specs.Laws.{CanBeStated}
use Rattle.cp_report.specs.ReadBack.{sections_of, input_forms, report_of}
use Rattle.cp_report.specs.UpToNames.{IsReport}
use Rattle.cp_report.specs.FittingTrees.{IsConsistentIn}

-- ---- what the problem states itself

-- The items of the last list are exactly the images of the first list that are also in the list between them.
abbrev pub AreListedImages : {A B : Type 0} → (A → B) → List A → List B → List B → Type 0
AreListedImages f xs listed ys = (y : _) → IsIn y ys ↔ (IsImageOfOne f xs y × IsIn y listed)

-- Each entry of the skeleton's map is one of its strands. What it has as the problem's own assumptions are exactly the images
-- of these that are among its assumptions. What it has as the problem's own pairs are exactly the images of these that lie
-- between different strands and are in its order.
pub record KeepsListed (problem k : Skeleton) : Type 0 where
  pub in_range : (s : ℕ) → IsIn s k.from_problem.strands → s < length k.strands
  pub non : AreListedImages (apply_to_atom (map_from_problem k).terms) problem.from_problem.assumptions.non_originating k.assumptions.non_originating k.from_problem.assumptions.non_originating
  pub penetrator_non :
      AreListedImages (apply_to_atom (map_from_problem k).terms) problem.from_problem.assumptions.penetrator_non_originating k.assumptions.penetrator_non_originating k.from_problem.assumptions.penetrator_non_originating
  pub unique : AreListedImages (unique_image (map_from_problem k)) problem.from_problem.assumptions.uniquely_originating k.assumptions.uniquely_originating k.from_problem.assumptions.uniquely_originating
  pub pairs : (p : OrderPair) →
      IsIn p k.from_problem.pairs ↔ (IsImageOfOne (pair_image (map_from_problem k)) problem.from_problem.pairs p × (p.earlier.strand ≢ p.later.strand) × Before k p.earlier p.later)

-- The image of each assumption that the problem states itself is among the skeleton's assumptions. The image of each pair that
-- the problem states itself is in the skeleton's order, if it lies between different strands.
pub record HasAllStated (problem k : Skeleton) : Type 0 where
  pub non : (v : AtomTerm) → IsIn v problem.from_problem.assumptions.non_originating → IsIn (apply_to_atom (map_from_problem k).terms v) k.assumptions.non_originating
  pub penetrator_non : (v : AtomTerm) → IsIn v problem.from_problem.assumptions.penetrator_non_originating → IsIn (apply_to_atom (map_from_problem k).terms v) k.assumptions.penetrator_non_originating
  pub unique : (u : UniqueAt) → IsIn u problem.from_problem.assumptions.uniquely_originating → IsIn (unique_image (map_from_problem k) u) k.assumptions.uniquely_originating
  pub pairs : (p : OrderPair) → IsImageOfOne (pair_image (map_from_problem k)) problem.from_problem.pairs p → p.earlier.strand ≢ p.later.strand → Before k p.earlier p.later

-- ---- labels and trees

-- What holds of label number i of a tree that forms without misfits denote for the problem: it is consistent, the variables that
-- occur are declared, and its map keeps what the problem states and the label lists. That its variables begin with the problem's
-- and that it has all that the problem states itself is not said.
pub record IsAcceptedIn (p : Problem) (labels : List Label) (i : ℕ) (l : Label) : Type 0 where
  pub declared : (x : Variable) → IsIn x (occurring l) → IsDeclared l.skeleton.variables x
  pub stated : KeepsListed p.skeleton l.skeleton
  pub consistent : IsConsistentIn p labels i l

abbrev pub TreeIsAccepted : Problem → Tree → Type 0
TreeIsAccepted p t = (i : ℕ) (l : Label) → item_at t.labels i ≡ Some l → IsAcceptedIn p t.labels i l

-- What an accepted label lacks to be one that can be stated: its variables are the problem's and later ones, they are fewer
-- than 2^64, and it has all that the problem states itself.
pub record IsWholeLabel (p : Problem) (l : Label) : Type 0 where
  pub later : List Declaration
  pub variables : l.skeleton.variables ≡ p.variables ++ later
  pub few : length l.skeleton.variables < 2 ^ 64
  pub stated : HasAllStated p.skeleton l.skeleton

abbrev pub HasWholeLabels : Problem → Tree → Type 0
HasWholeLabels p t = (l : Label) → IsIn l t.labels → IsWholeLabel p l

-- The label has all that the problem states itself, and both together have fewer than 2^64 variables.
pub record IsCompleteLabel (p : Problem) (l : Label) : Type 0 where
  pub few : length p.variables + length l.skeleton.variables < 2 ^ 64
  pub stated : HasAllStated p.skeleton l.skeleton

abbrev pub HasCompleteLabels : Problem → Tree → Type 0
HasCompleteLabels p t = (l : Label) → IsIn l t.labels → IsCompleteLabel p l

-- The forms are a report of the input that they state and of trees that can be stated for it.
pub record CanBeRestated (fs : Forms) : Type 0 where
  pub trees : List Tree
  pub stated : CanBeStated (input_forms (sections_of (items_of fs)).sections) trees
  pub report : IsReport fs (record { entries = (report_of fs).entries; trees = trees })
