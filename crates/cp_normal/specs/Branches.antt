-- The branches of a skeleton in which a unique value is misplaced.
use Rattle.std.specs.Prelude.{◌≡◌, ◌⊎◌, List}
use Rattle.cp_lists.specs.Lists.{IsIn}
use Rattle.cp_model.specs.Term.{AtomTerm, Assignment, value_of_atom, Substitution}
use Rattle.cp_model.specs.declared.variable.Variable.{Variable}
use Rattle.cp_model.specs.declared.node.Node.{Node}
use Rattle.cp_model.specs.Skeleton.{UniqueAt, Skeleton}
use Rattle.cp_model.specs.Problem.{variables_of_skeleton}
use Rattle.cp_theory.specs.Normal.{skeleton_under}
use Rattle.cp_collapse.specs.SameSkeletons.{SaysTheSame}
use Rattle.cp_normal.specs.NormalForms.{IsMisplaced, IsReceivedBefore}
use Rattle.cp_collapse.specs.Directed.{IsMostGeneralFor}

-- No assignment gives the two atoms one value.
abbrev pub NeverEqualAtoms : AtomTerm → AtomTerm → Type 0
NeverEqualAtoms a b = (g : Assignment) → value_of_atom g a ≡ value_of_atom g b → ⊥

-- One of the skeletons says the same as k under the most general unifier of a and b.
pub record HasBranch (k : Skeleton) (a b : AtomTerm) (branches : List Skeleton) : Type 0 where
  pub unifier : Substitution
  pub most_general : IsMostGeneralFor a b unifier
  pub branch : Skeleton
  pub listed : IsIn branch branches
  pub same : SaysTheSame (skeleton_under unifier k) branch

-- Each atom that was received before the node has a branch, or is never equal to the unique value.
abbrev pub HasBranches : Skeleton → UniqueAt → Node → List Skeleton → Type 0
HasBranches k u x branches = (heard : AtomTerm) → IsReceivedBefore k heard x → NeverEqualAtoms u.value heard ⊎ HasBranch k u.value heard branches

-- l has fewer variables than k: its own are all among those of k, and one of k's is not among its own.
pub record HasFewerVariables (k l : Skeleton) : Type 0 where
  pub among : (x : Variable) → IsIn x (variables_of_skeleton l) → IsIn x (variables_of_skeleton k)
  pub taken : Variable
  pub was_there : IsIn taken (variables_of_skeleton k)
  pub is_gone : IsIn taken (variables_of_skeleton l) → ⊥

-- No unique value is misplaced.
abbrev pub IsSettled : Skeleton → Type 0
IsSettled k = (u : UniqueAt) (x : Node) → IsMisplaced k u x → ⊥
