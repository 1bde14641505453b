-- Labels that are those of roots, at the roots' numbers, and those that were made from them by generalising.
use Rattle.std.specs.Prelude.{◌≡◌, ◌⊎◌, ℕ, List, Some, None}
use Rattle.cp_lists.specs.Lists.{item_at}
use Rattle.cp_model.specs.declared.variable.Declaration.{Declaration}
use Rattle.cp_model.specs.Tree.{Label}
use Rattle.cp_model.specs.declared.tree.Operation.TheVariants.{Generalised as by_generalising}
use Rattle.cp_skel.specs.Tables.{DiffersInTable}
use Rattle.cp_roots.specs.declared.root.Root.{Root}
use Rattle.cp_general.specs.Generalisation.{GeneralisesTo}

-- The label is that of the root of a problem of these variables: it was made from no other, as the root was, and has its skeleton,
-- with another table of variables where it was expanded.
pub record IsLabelOfRoot (variables : List Declaration) (root : Root) (l : Label) : Type 0 where
  pub no_parent : l.parent ≡ None
  pub operation : l.operation ≡ root.operation
  pub skeleton : DiffersInTable root.skeleton l.skeleton
  pub declared : l.test ≡ None → l.skeleton.variables ≡ variables

-- The labels of the roots are the first, in the order of the roots.
pub record RootsAreFirst (variables : List Declaration) (roots : List Root) (labels : List Label) : Type 0 where
  pub there : (i : ℕ) (root : Root) → item_at roots i ≡ Some root → (l : Label) × (item_at labels i ≡ Some l) × IsLabelOfRoot variables root l

-- The label was made by generalising from that of a root of a problem of these variables.
pub record IsGeneralisedRoot (variables : List Declaration) (roots : List Root) (l : Label) : Type 0 where
  pub number : ℕ
  pub root : Root
  pub at : item_at roots number ≡ Some root
  pub parent : l.parent ≡ Some number
  pub operation : l.operation ≡ by_generalising
  pub declared : l.skeleton.variables ≡ variables
  pub generalises : GeneralisesTo root.skeleton l.skeleton

-- Label i is that of root number i.
pub record IsOfRoot (variables : List Declaration) (roots : List Root) (i : ℕ) (l : Label) : Type 0 where
  pub root : Root
  pub at : item_at roots i ≡ Some root
  pub label : IsLabelOfRoot variables root l

-- The labels of the roots are the first, none was expanded, and each label is that of a root, or was made by generalising from
-- one of these.
pub record AreRootsGeneralised (variables : List Declaration) (roots : List Root) (labels : List Label) : Type 0 where
  pub first : RootsAreFirst variables roots labels
  pub unexpanded : (i : ℕ) (l : Label) → item_at labels i ≡ Some l → l.test ≡ None
  pub each : (i : ℕ) (l : Label) → item_at labels i ≡ Some l → IsOfRoot variables roots i l ⊎ IsGeneralisedRoot variables roots l
