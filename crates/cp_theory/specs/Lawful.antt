-- Lawful trees: labels with edges, along which no standing of the problem is lost.
use Rattle.std.specs.Prelude.{◌≡◌, ◌≢◌, ◌⊎◌, ℕ, List, [], ◌∷◌, Option, Some, None}
use Rattle.cp_lists.specs.Lists.{item_at, IsIn, Steps}
use Rattle.cp_model.specs.Strand.{Protocol}
use Rattle.cp_model.specs.Bundle.{Bundle, IsBundle}
use Rattle.cp_model.specs.Skeleton.{Skeleton}
use Rattle.cp_model.specs.Standing.{Standing, StandsIn, StandsApart}
use Rattle.cp_model.specs.Homomorphism.{FactorsThrough, Covers}
use Rattle.cp_model.specs.Tree.{Label}
use Rattle.cp_model.specs.declared.tree.Mark.{Mark}
use Rattle.cp_model.specs.declared.tree.Mark.TheVariants.{Shape as shape, LimitSteps as limit_steps, LimitStrands as limit_strands}

-- Each standing of the problem that factors through k, where k stands apart, factors through one of the skeletons.
abbrev pub PassesOn : Protocol → Skeleton → Skeleton → List Skeleton → Type 0
PassesOn protocol problem k ks = (b : Bundle) (f h : Standing) → IsBundle protocol b → StandsIn k b h → StandsApart k h → FactorsThrough problem f k h → Covers ks problem b f

-- The skeletons of the labels with these numbers.
abbrev pub with_label : Option Label → List Skeleton → List Skeleton
with_label None ks = ks
with_label (Some l) ks = l.skeleton ∷ ks

abbrev pub skeletons_at : List Label → List ℕ → List Skeleton
skeletons_at labels [] = []
skeletons_at labels (n ∷ ns) = with_label (item_at labels n) (skeletons_at labels ns)

-- An edge leads from one label to another, by their numbers.
abbrev pub IsEdgeOf : (ℕ → List ℕ) → ℕ → ℕ → Type 0
IsEdgeOf edges i j = IsIn j (edges i)

-- The marks of labels that are left at the end: of shapes, and of labels at a limit.
pub data IsLeft : Option Mark → Type 0 where
  at_shape : IsLeft (Some shape)
  at_step_bound : IsLeft (Some limit_steps)
  at_strand_bound : IsLeft (Some limit_strands)

-- The edges have no cycle, and each label is left or passes on to those to which its edges lead.
pub record IsLawful (protocol : Protocol) (problem : Skeleton) (labels : List Label) (edges : ℕ → List ℕ) : Type 0 where
  pub no_cycle : (i : ℕ) → Steps (IsEdgeOf edges) i i → ⊥
  pub passes_on : (i : ℕ) (l : Label) → item_at labels i ≡ Some l → IsLeft l.mark ⊎ PassesOn protocol problem l.skeleton (skeletons_at labels (edges i))

-- No label is at a limit.
pub record IsWithinLimits (labels : List Label) : Type 0 where
  pub within_steps : (l : Label) → IsIn l labels → l.mark ≢ Some limit_steps
  pub within_strands : (l : Label) → IsIn l labels → l.mark ≢ Some limit_strands
