-- Derivation trees, and what has to be true of one that is printed for a problem.
use Rattle.std.specs.Prelude.{◌≡◌, ◌≢◌, ℕ, ◌+◌, ◌<◌, ◌≤◌, List, [], ◌∷◌, length, Option, Some, None}
use Rattle.cp_lists.specs.Lists.{item_at, IsIn}
use Rattle.cp_model.specs.Term.{Variable, Term}
use Rattle.cp_model.specs.Strand.{Protocol}
use Rattle.cp_model.specs.Skeleton.{Skeleton, IsSkeleton}
use Rattle.cp_model.specs.Derivable.{IsUnrealised}
use Rattle.cp_model.specs.Standing.{IsRealised}
use Rattle.cp_model.specs.Homomorphism.{CarriesHomomorphism, Embeds, IsCompleteList}
use Rattle.cp_model.specs.Stated.{KeepsStated}
use Rattle.cp_model.specs.declared.tree.Test as tests
use Rattle.cp_model.specs.declared.tree.Label as labels
use Rattle.cp_model.specs.declared.tree.Tree as trees
-- How a label was made: from the problem itself, by a collapse (each strand's lowest equal), by one of the steps
-- that an authentication test allows, or by generalising.
pub use Rattle.cp_model.specs.declared.tree.Operation.{Operation}
pub use Rattle.cp_model.specs.declared.tree.Operation.TheVariants.{Problem as by_problem, Collapsed as by_collapse, Contracted as by_contraction, Displaced as by_displacement, AddedStrand as by_added_strand, AddedListener as by_added_listener, Generalised as by_generalising}
-- What a leaf is, how a search ended, and its limits: the step limit, and the bound on the number of strands.
pub use Rattle.cp_model.specs.declared.tree.Mark.{Mark}
pub use Rattle.cp_model.specs.declared.tree.Mark.TheVariants.{Shape as shape, Dead as dead, Seen as seen, InstanceOf as instance_of, LimitSteps as limit_steps, LimitStrands as limit_strands}
pub use Rattle.cp_model.specs.declared.tree.Outcome.{Outcome}
pub use Rattle.cp_model.specs.declared.tree.Outcome.TheVariants.{Complete as complete, LimitSteps as at_step_limit, LimitStrands as at_strand_limit}
pub use Rattle.cp_model.specs.declared.tree.Limits.{Limits}

-- An encryption whose local variables stand for any atom of their sort.
pub record Pattern : Type 0 where
  pub term : Term
  pub locals : List Variable

-- An authentication test: a reception, and the component of its message that cannot be derived.
abbrev pub Test : Type 0
Test = tests.Test Term

-- One label of a tree. The variables of its skeleton are numbered in the order in which they were made.
abbrev pub Label : Type 0
Label = labels.Label Skeleton Term (List Pattern)

abbrev pub Tree : Type 0
Tree = trees.Tree (List Label)

abbrev pub is_expanded : Option Test → ℕ
is_expanded None = 0
is_expanded (Some t) = 1

-- How many labels were expanded: those with a test.
abbrev pub expanded_count : List Label → ℕ
expanded_count [] = 0
expanded_count (l ∷ ls) = is_expanded l.test + expanded_count ls

-- The skeletons of the labels that are shapes.
abbrev pub if_shape : Option Mark → Skeleton → List Skeleton → List Skeleton
if_shape (Some shape) k ks = k ∷ ks
if_shape _ k ks = ks

abbrev pub shapes_of : List Label → List Skeleton
shapes_of [] = []
shapes_of (l ∷ ls) = if_shape l.mark l.skeleton (shapes_of ls)

-- A label that is unrealised and neither seen nor dead.
pub record IsOpen (tree : Tree) (label : Label) : Type 0 where
  pub listed : IsIn label tree.labels
  pub unrealised : IsUnrealised label.skeleton
  pub not_seen : (n : ℕ) → label.mark ≢ Some (seen n)
  pub not_dead : label.mark ≢ Some dead

-- The step limit was reached: as many labels were expanded as it says, and a label that is open and within the
-- strand bound was not.
pub record ReachedSteps (limits : Limits) (tree : Tree) : Type 0 where
  pub expanded : expanded_count tree.labels ≡ limits.steps
  pub label : Label
  pub left : IsOpen tree label
  pub unexpanded : label.test ≡ None
  pub within : length label.skeleton.strands ≤ limits.strands

-- The strand bound was reached: no label was left at the step limit, and an open one has more strands.
pub record ReachedStrands (limits : Limits) (tree : Tree) : Type 0 where
  pub no_step_limit : (l : Label) → IsIn l tree.labels → l.mark ≢ Some limit_steps
  pub label : Label
  pub left : IsOpen tree label
  pub above : limits.strands < length label.skeleton.strands

-- The skeletons of the labels that are shapes or at a limit.
abbrev pub if_left : Option Mark → Skeleton → List Skeleton → List Skeleton
if_left (Some shape) k ks = k ∷ ks
if_left (Some limit_steps) k ks = k ∷ ks
if_left (Some limit_strands) k ks = k ∷ ks
if_left _ k ks = ks

abbrev pub skeletons_left : List Label → List Skeleton
skeletons_left [] = []
skeletons_left (l ∷ ls) = if_left l.mark l.skeleton (skeletons_left ls)

-- What is true of each label: it denotes a skeleton over the protocol, which carries a homomorphism from the problem and keeps
-- what the problem states itself; a shape is realised.
pub record IsLabelOf (protocol : Protocol) (problem : Skeleton) (label : Label) : Type 0 where
  pub skeleton : IsSkeleton protocol label.skeleton
  pub from_problem : CarriesHomomorphism problem label.skeleton
  pub stated : KeepsStated problem label.skeleton
  pub realised : label.mark ≡ Some shape → IsRealised protocol label.skeleton

-- No shape embeds in another.
abbrev pub NoShapeEmbedsInAnother : List Label → Type 0
NoShapeEmbedsInAnother labels = (i j : ℕ) (l m : Label) → item_at labels i ≡ Some l → item_at labels j ≡ Some m → l.mark ≡ Some shape → m.mark ≡ Some shape → i ≢ j → Embeds l.skeleton m.skeleton → ⊥

-- A limit is the outcome only where its stated bound was reached.
pub record HasReachedLimit (limits : Limits) (tree : Tree) : Type 0 where
  pub steps : tree.outcome ≡ at_step_limit → ReachedSteps limits tree
  pub strands : tree.outcome ≡ at_strand_limit → ReachedStrands limits tree

-- What is true of the tree that is printed for a problem, of its labels, its shapes and its outcome: where that is complete, every
-- bundle in which the problem stands contains a shape through which that standing factors; at a limit too it contains a shape or a
-- label at a limit through which it does.
pub record IsTrueOf (protocol : Protocol) (problem : Skeleton) (limits : Limits) (tree : Tree) : Type 0 where
  pub labels : (i : ℕ) (l : Label) → item_at tree.labels i ≡ Some l → IsLabelOf protocol problem l
  pub apart : NoShapeEmbedsInAnother tree.labels
  pub nothing_missed : tree.outcome ≡ complete → IsCompleteList protocol problem (shapes_of tree.labels)
  pub nothing_left_out : IsCompleteList protocol problem (skeletons_left tree.labels)
  pub limit_reached : HasReachedLimit limits tree
