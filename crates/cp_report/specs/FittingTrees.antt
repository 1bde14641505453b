-- Labels and trees that a report can state: what has to hold of a tree that is printed for it to be read back.
use Rattle.std.specs.Prelude.{◌≡◌, ◌≢◌, ℕ, ◌<◌, ◌≤◌, ◌^◌, List, [], ◌∷◌, length, Option, Some, None}
use Rattle.cp_lists.specs.Lists.{item_at, IsIn}
use Rattle.cp_model.specs.Senders.{ArePaired}
use Rattle.cp_model.specs.Term.{AtomTerm, Term, atom_term}
use Rattle.cp_model.specs.Bindings.{sort_of_atom}
use Rattle.cp_model.specs.declared.variable.Declaration.{Declaration}
use Rattle.cp_model.specs.declared.node.Node.{Node}
use Rattle.cp_model.specs.Skeleton.{IsNodeOf, Skeleton, IsSkeleton}
use Rattle.cp_model.specs.Stated.{KeepsStated}
use Rattle.cp_model.specs.Pattern.{IsPattern}
use Rattle.cp_model.specs.Tree.{Pattern, Test, Label, Tree}
use Rattle.cp_model.specs.declared.tree.Operation.{Operation}
use Rattle.cp_model.specs.declared.tree.Operation.TheVariants.{Problem as by_problem, Collapsed as by_collapse, Contracted as by_contraction, Displaced as by_displacement, AddedStrand as by_added_strand, AddedListener as by_added_listener, Generalised as by_generalising}
use Rattle.cp_model.specs.declared.tree.Mark.{Mark}
use Rattle.cp_model.specs.declared.tree.Mark.TheVariants.{Shape as shape, Dead as dead, Seen as seen, InstanceOf as instance_of, LimitSteps as limit_steps, LimitStrands as limit_strands}
use Rattle.cp_language.specs.Problems.{Problem}
use Rattle.cp_language.specs.Input.{Entry, stated}
use Rattle.cp_language.specs.Report.{HasItsVariables}

-- ---- the map

-- The term is an atom of the variable's sort.
abbrev pub HasSortOf : Declaration → Term → Type 0
HasSortOf d t = (v : AtomTerm) × (t ≡ atom_term v) × (sort_of_atom v ≡ d.sort)

-- The map has a strand for each of the problem's, and a term of its sort for each of its variables.
pub record MapsAll (p : Problem) (k : Skeleton) : Type 0 where
  pub strands : length k.from_problem.strands ≡ length p.skeleton.strands
  pub values : ArePaired HasSortOf p.variables k.from_problem.values

-- ---- operation, parent and children

-- One entry for each of so many strands: at most its place, and a strand that names itself.
pub record IsPartitionOf (strands : ℕ) (ps : List ℕ) : Type 0 where
  pub each : length ps ≡ strands
  pub lowest : (i n : ℕ) → item_at ps i ≡ Some n → (n ≤ i) × (item_at ps n ≡ Some n)

abbrev pub IsOperationOn : Problem → Skeleton → Operation → Type 0
IsOperationOn p k by_problem = Unit {0}
IsOperationOn p k (by_collapse ps) = IsPartitionOf (length p.skeleton.strands) ps
IsOperationOn p k (by_contraction n) = IsNodeOf k.strands n
IsOperationOn p k (by_displacement n) = IsNodeOf k.strands n
IsOperationOn p k (by_added_strand s) = s < length k.strands
IsOperationOn p k (by_added_listener s) = s < length k.strands
IsOperationOn p k by_generalising = Unit {0}

-- Label number n is there, and has label number i among its children.
abbrev pub HasChild : List Label → ℕ → ℕ → Type 0
HasChild labels i n = (m : Label) × (item_at labels n ≡ Some m) × IsIn i m.children

-- A label that was made from no other has no parent; any other one has a label that names it as its child.
abbrev pub HasNoParent : Option ℕ → Type 0
HasNoParent parent = parent ≡ None

abbrev pub HasParent : List Label → ℕ → Option ℕ → Type 0
HasParent labels i None = ⊥
HasParent labels i (Some n) = HasChild labels i n

abbrev pub IsParentOf : List Label → ℕ → Operation → Option ℕ → Type 0
IsParentOf labels i by_problem parent = HasNoParent parent
IsParentOf labels i (by_collapse ps) parent = HasNoParent parent
IsParentOf labels i (by_contraction n) parent = HasParent labels i parent
IsParentOf labels i (by_displacement n) parent = HasParent labels i parent
IsParentOf labels i (by_added_strand s) parent = HasParent labels i parent
IsParentOf labels i (by_added_listener s) parent = HasParent labels i parent
IsParentOf labels i by_generalising parent = HasParent labels i parent

-- Each child is there and names this label as its parent, and none stands twice.
pub record AreChildrenOf (labels : List Label) (i : ℕ) (children : List ℕ) : Type 0 where
  pub each : (n : ℕ) → IsIn n children → (m : Label) × (item_at labels n ≡ Some m) × (m.parent ≡ Some i)
  pub once : (a b n : ℕ) → item_at children a ≡ Some n → item_at children b ≡ Some n → a ≡ b

-- ---- test, patterns and mark

abbrev pub IsTestOn : Skeleton → Option Test → Type 0
IsTestOn k None = Unit {0}
IsTestOn k (Some t) = IsNodeOf k.strands t.node

-- A label that a mark names is there.
abbrev pub IsMarkIn : List Label → Mark → Type 0
IsMarkIn labels (seen n) = n < length labels
IsMarkIn labels (instance_of n) = n < length labels
IsMarkIn labels shape = Unit {0}
IsMarkIn labels dead = Unit {0}
IsMarkIn labels limit_steps = Unit {0}
IsMarkIn labels limit_strands = Unit {0}

-- A label has a mark or children, and not both.
abbrev pub HasMarkOrChildren : List Label → Option Mark → List ℕ → Type 0
HasMarkOrChildren labels None children = children ≢ []
HasMarkOrChildren labels (Some m) children = IsMarkIn labels m × (children ≡ [])

-- ---- labels and trees

-- Label number i of a tree for the problem is a skeleton over the protocol with a map from the problem, all nodes and labels
-- that it names are there, and parents and children agree.
pub record IsConsistentIn (p : Problem) (labels : List Label) (i : ℕ) (l : Label) : Type 0 where
  pub skeleton : IsSkeleton p.protocol l.skeleton
  pub maps_all : MapsAll p l.skeleton
  pub operation : IsOperationOn p l.skeleton l.operation
  pub parent : IsParentOf labels i l.operation l.parent
  pub unrealised : (n : Node) → IsIn n l.unrealised → IsNodeOf l.skeleton.strands n
  pub test : IsTestOn l.skeleton l.test
  pub patterns : (q : Pattern) → IsIn q l.escape → IsPattern q
  pub escape : l.test ≡ None → l.escape ≡ []
  pub children : AreChildrenOf labels i l.children
  pub mark : HasMarkOrChildren labels l.mark l.children

-- Label number i of a tree for the problem can be stated: it is consistent, its variables are the problem's and later ones,
-- and its map keeps what the problem states. Its variables are fewer than 2^64, so that the numbers that set names apart, as
-- in `x-0` and `x-1`, are written with different digits.
pub record FitsIn (p : Problem) (labels : List Label) (i : ℕ) (l : Label) : Type 0 where
  pub variables : HasItsVariables p l
  pub few : length l.skeleton.variables < 2 ^ 64
  pub stated : KeepsStated p.skeleton l.skeleton
  pub consistent : IsConsistentIn p labels i l

abbrev pub TreeFits : Problem → Tree → Type 0
TreeFits p t = (i : ℕ) (l : Label) → item_at t.labels i ≡ Some l → FitsIn p t.labels i l

abbrev pub problem_onto : Option Problem → List Problem → List Problem
problem_onto None ps = ps
problem_onto (Some p) ps = p ∷ ps

-- The problems of the input, in order.
abbrev pub problems_in : List Entry → List Problem
problems_in [] = []
problems_in (e ∷ es) = problem_onto (stated e) (problems_in es)
