-- Trees that are true of the problems that entries state, and what is asked of the pairs in the labels of a tree.
use Rattle.std.specs.Prelude.{List}
use Rattle.std.specs.List.{AllZip, filter_map}
use Rattle.cp_lists.specs.Lists.{IsIn}
use Rattle.cp_model.specs.Skeleton.{IsOrderPair}
use Rattle.cp_model.specs.declared.node.OrderPair.{OrderPair}
use Rattle.cp_model.specs.Tree.{Label, Tree, IsTrueOf}
use Rattle.cp_model.specs.declared.tree.Limits.{Limits}
use Rattle.cp_language.specs.Input.{Entry, stated}

-- In each label of the tree, each pair goes from a transmission to a reception of another strand.
abbrev pub HasOrderPairs : Tree → Type 0
HasOrderPairs tree = (l : Label) → IsIn l tree.labels → (p : OrderPair) → IsIn p l.skeleton.pairs → IsOrderPair l.skeleton p

-- There is one tree for each problem that an entry states, in the same order, and each tree is true of its problem.
abbrev pub AreTrueOf : Limits → List Entry → List Tree → Type 0
AreTrueOf limits entries trees = AllZip (λ p t. IsTrueOf p.protocol p.skeleton limits t) (filter_map stated entries) trees
