-- Pairs without a cycle.
use Rattle.std.specs.Prelude.{◌≡◌, ◌⊎◌, ℕ, List, [], ◌∷◌, ◌++◌, take, Bool, true}
use Rattle.cp_lists.specs.Lists.{IsIn}
use Rattle.cp_model.specs.declared.node.Node.{Node}
use Rattle.cp_model.specs.declared.node.OrderPair.{OrderPair}
use Rattle.cp_model.specs.Order.{ReachesAlong}
use Rattle.cp_sexpr.specs.Syntax.{Form}
use Rattle.cp_language.specs.Roles.{headed, item_or_none, items_behind}
use Rattle.cp_language.specs.Problems.{first_form, second_form, option_node, pair_of_nodes, between_strands, at_or_after, any_pair, is_precedes_item, pairs_if}
use Rattle.cp_order.specs.PredecessorNodes.{Tops, is_under_tops}

-- No pair's later node reaches its earlier one.
abbrev pub IsAcyclic : List OrderPair → Type 0
IsAcyclic ps = (p : OrderPair) → IsIn p ps → ReachesAlong ps p.later p.earlier → ⊥

-- Where the flag is set, the pairs have no cycle.
abbrev pub IsAcyclicIf : Bool → List OrderPair → Type 0
IsAcyclicIf b ps = b ≡ true → IsAcyclic ps

-- The first so many of the pairs have no cycle.
abbrev pub IsAcyclicUpTo : ℕ → List OrderPair → Type 0
IsAcyclicUpTo n ps = IsAcyclic (take n ps)

-- The pair that these items of a pair state, if it is between two strands.
abbrev pub pair_of_items : List Form → List OrderPair
pair_of_items fs = between_strands (pair_of_nodes (option_node (first_form fs)) (option_node (second_form fs)))

-- The pairs that an item of a problem states, and those that items do.
abbrev pub pairs_of_item : Form → List OrderPair
pairs_of_item f = pairs_if (is_precedes_item (item_or_none (headed f))) (items_behind (headed f))

abbrev pub pairs_stated : List Form → List OrderPair
pairs_stated [] = []
pairs_stated (f ∷ fs) = pairs_of_item f ++ pairs_stated fs

-- ---- pairs that are taken one after another

-- Those that are done have no cycle; the tops are at the nodes where they begin; and the others are still to be taken.
pub record IsSwept (all rest done : List OrderPair) (tops : Tops) : Type 0 where
  pub acyclic : IsAcyclic done
  pub tops_are : (x : Node) → is_under_tops tops x ≡ any_pair (λ p. at_or_after x p.earlier) done
  pub each : (p : OrderPair) → IsIn p all → IsIn p done ⊎ IsIn p rest
