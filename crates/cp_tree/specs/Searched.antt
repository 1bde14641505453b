-- The tree that a search makes: what becomes of each label, in ascending order.
use Rattle.std.specs.Prelude.{◌≡◌, ◌<◌, ◌+◌, ℕ, suc, List, [], ◌∷◌, ◌++◌, length, map, Option, Some}
use Rattle.cp_lists.specs.Lists.{item_at, IsIn}
use Rattle.cp_model.specs.Strand.{Protocol}
use Rattle.cp_model.specs.declared.variable.Declaration.{Declaration}
use Rattle.cp_model.specs.Skeleton.{Skeleton}
use Rattle.cp_model.specs.Problem.{numbers_from}
use Rattle.cp_model.specs.Tree.{Label, Tree, is_expanded}
use Rattle.cp_model.specs.declared.tree.Mark.{Mark}
use Rattle.cp_model.specs.declared.tree.Mark.TheVariants.{Shape as shape, InstanceOf as instance_of, LimitSteps as limit_steps, LimitStrands as limit_strands}
use Rattle.cp_model.specs.declared.tree.Outcome.{Outcome}
use Rattle.cp_model.specs.declared.tree.Outcome.TheVariants.{Complete as complete, LimitSteps as at_step_limit, LimitStrands as at_strand_limit}
use Rattle.cp_model.specs.declared.tree.Limits.{Limits}
use Rattle.cp_shapes.specs.Shapes.{IsLeast, IsShapeAt, IsInstanceOfShape}
use Rattle.cp_roots.specs.declared.root.Root.{Root}
use Rattle.cp_roots.specs.Roots.{AreRoots}
pub use Rattle.cp_tree.specs.Resolves.{leaf, mark_by_children, expanded, generalised, Resolves}
use Rattle.cp_tree.specs.Candidates.{Candidate, AreCandidates, skeletons_of, IsLabelAt}
use Rattle.cp_tree.specs.Made.{Made, made_of_root, LabelLink, link_of}

-- What becomes of labels that were made so, the first of them number i, when `before` of the labels in front of it had been
-- expanded; and which labels are made from them, in their order.
pub data AreResolved (protocol : Protocol) (limits : Limits) (links : List LabelLink) (marks : ℕ → Option Mark → Type 0) : (i before : ℕ) → List Made → List Label → List Made → Type 0 where
  all_settled : {i before : ℕ} → AreResolved protocol limits links marks i before [] [] []
  then_settled : {i before : ℕ} {m : Made} {l : Label} {made : List Made} {labels : List Label} {from_this from_others : List Made} → Resolves protocol limits links marks i before m l from_this
      → AreResolved protocol limits links marks (suc i) (before + is_expanded l.test) made labels from_others → AreResolved protocol limits links marks i before (m ∷ made) (l ∷ labels) (from_this ++ from_others)

-- How candidate label i is marked: as a shape, or else as an instance of the least shape of which it is one.
pub data IsMarkedAmong (candidates : List Candidate) (i : ℕ) : Option Mark → Type 0 where
  as_shape : {p : ℕ} → IsLabelAt candidates p i → IsShapeAt (skeletons_of candidates) p → IsMarkedAmong candidates i (Some shape)
  as_instance : {p q n : ℕ} → IsLabelAt candidates p i → IsLeast (IsInstanceOfShape (skeletons_of candidates) p) q → IsLabelAt candidates q n → IsMarkedAmong candidates i (Some (instance_of n))

-- The children of all labels, strung together.
abbrev pub children_of : List Label → List ℕ
children_of [] = []
children_of (l ∷ ls) = l.children ++ children_of ls

-- Some label has this mark.
abbrev pub IsMarked : List Label → Mark → Type 0
IsMarked labels mark = (l : Label) × IsIn l labels × (l.mark ≡ Some mark)

-- The outcome is at the step limit where some label is; else at the bound on strands where some label is; else complete.
pub data HasOutcome (labels : List Label) : Outcome → Type 0 where
  some_at_step_limit : IsMarked labels limit_steps → HasOutcome labels at_step_limit
  some_at_strand_limit : (IsMarked labels limit_steps → ⊥) → IsMarked labels limit_strands → HasOutcome labels at_strand_limit
  none_at_limit : (IsMarked labels limit_steps → ⊥) → (IsMarked labels limit_strands → ⊥) → HasOutcome labels complete

-- The tree that a search from these roots makes, of a problem of these variables. The roots have the first numbers; behind them
-- stand the children of the labels, of a smaller label before those of a greater one, and of an expanded label in the order of its
-- test's children; each comes behind the label from which it was made. The labels are resolved in ascending order.
pub record IsTreeFrom (protocol : Protocol) (variables : List Declaration) (limits : Limits) (roots : List Root) (tree : Tree) : Type 0 where
  pub declared : (root : Root) → IsIn root roots → root.skeleton.variables ≡ variables
  pub children : List Made
  pub candidates : List Candidate
  pub are_candidates : AreCandidates tree.labels candidates
  pub settled : AreResolved protocol limits (map link_of tree.labels) (IsMarkedAmong candidates) 0 0 (map made_of_root roots ++ children) tree.labels children
  pub numbers : children_of tree.labels ≡ numbers_from (length roots) children
  pub parents_first : (i j : ℕ) (l : Label) → item_at tree.labels j ≡ Some l → l.parent ≡ Some i → i < j
  pub outcome : HasOutcome tree.labels tree.outcome

-- The tree of a search for the shapes of a problem of these variables.
pub record IsTreeOf (protocol : Protocol) (k : Skeleton) (variables : List Declaration) (limits : Limits) (tree : Tree) : Type 0 where
  pub roots : List Root
  pub are_roots : AreRoots k roots
  pub from_roots : IsTreeFrom protocol variables limits roots tree
