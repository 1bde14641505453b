-- The edges of a tree, and its leaves.
use Rattle.std.specs.Prelude.{◌≡◌, ℕ, List, [], ◌∷◌, Option, Some, None}
use Rattle.cp_lists.specs.Lists.{item_at}
use Rattle.cp_model.specs.Tree.{Label}
use Rattle.cp_model.specs.declared.tree.Mark.{Mark}
use Rattle.cp_model.specs.declared.tree.Mark.TheVariants.{Shape as shape, Dead as dead, Seen as seen, InstanceOf as instance_of, LimitSteps as limit_steps, LimitStrands as limit_strands}

-- The label was not expanded, and no label was made from it.
pub record IsLeafLabel (l : Label) : Type 0 where
  pub unexpanded : l.test ≡ None
  pub no_children : l.children ≡ []

-- From a label edges lead to its children, and to the label in which it is seen, or of which it is an instance.
abbrev pub edge_by : Option Mark → List ℕ → List ℕ
edge_by None children = children
edge_by (Some shape) children = children
edge_by (Some dead) children = children
edge_by (Some (seen n)) children = n ∷ children
edge_by (Some (instance_of n)) children = n ∷ children
edge_by (Some limit_steps) children = children
edge_by (Some limit_strands) children = children

abbrev pub edges_from : Option Label → List ℕ
edges_from None = []
edges_from (Some l) = edge_by l.mark l.children

-- The labels to which edges lead from label i.
abbrev pub edges : List Label → ℕ → List ℕ
edges labels i = edges_from (item_at labels i)
