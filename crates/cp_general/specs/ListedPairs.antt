-- The pairs of a skeleton's order in a list, and how they are gathered.
use Rattle.cp_skel.specs.Events.{LocatedEvent}
use Rattle.std.specs.Prelude.{◌↔◌, ◌==◌, ◌&&◌, not, if◌then◌else◌, length, Bool, true, false, List, [], ◌∷◌, ◌++◌, map}
use Rattle.std.specs.List.{filter}
use Rattle.cp_lists.specs.Lists.{IsIn}
use Rattle.cp_model.specs.Term.{Term}
use Rattle.cp_model.specs.declared.strand.Event.{Event}
use Rattle.cp_model.specs.declared.strand.Event.TheVariants.{Send as send, Receive as recv}
use Rattle.cp_model.specs.Same.{same_node}
use Rattle.cp_model.specs.declared.node.Node.{Node}
use Rattle.cp_model.specs.declared.node.OrderPair.{OrderPair}
use Rattle.cp_model.specs.OrderTests.{reaches_within}
use Rattle.cp_model.specs.Skeleton.{Skeleton}
use Rattle.cp_general.specs.declared.pairs.Reception.{Reception}
use Rattle.cp_normal.specs.Findings.{IsAddedPair}
use Rattle.cp_general.specs.Steps.{IsPairOfOrder, IsLowerPair}

-- Each pair stands before all that are higher, and once.
abbrev pub AreRisingPairs : List OrderPair → Type 0
AreRisingPairs [] = Unit {0}
AreRisingPairs (p ∷ ps) = ((q : OrderPair) → IsIn q ps → IsLowerPair p q) × AreRisingPairs ps

-- The list holds exactly the pairs of the skeleton's order, from the lowest on.
pub record ListsOrder (k : Skeleton) (pairs : List OrderPair) : Type 0 where
  pub each : (q : OrderPair) → IsIn q pairs ↔ IsPairOfOrder k q
  pub rising : AreRisingPairs pairs

-- The list holds exactly the pairs that unique values add to the skeleton's order.
abbrev pub ListsAdded : Skeleton → List OrderPair → Type 0
ListsAdded k pairs = (p : OrderPair) → IsIn p pairs ↔ IsAddedPair k p

-- ---- how they are gathered

-- The event is a transmission, or a reception.
abbrev pub is_transmission : Event Term → Bool
is_transmission (send t) = true
is_transmission (recv t) = false

abbrev pub is_reception : Event Term → Bool
is_reception (send t) = false
is_reception (recv t) = true

-- The nodes of those of the events that pass the test.
abbrev pub nodes_where : (Event Term → Bool) → List LocatedEvent → List Node
nodes_where test os = map (λ (o : LocatedEvent). o.node) (filter (λ (o : LocatedEvent). test o.event) os)

-- The reception at a node, with its predecessors along these pairs.
abbrev pub gathered : List OrderPair → Node → Reception
gathered order y = record { node = y; leading = record { pairs = order; node = y } }

-- The node reaches the reception, which is on another strand.
abbrev pub leads_across : Node → Reception → Bool
leads_across x y = not (x.strand == y.node.strand) && reaches_within (length y.leading.pairs) y.leading.pairs x y.leading.node

-- The pairs from a node to those of these receptions, on other strands, that it reaches.
abbrev pub pairs_to_receptions : Node → List Reception → List OrderPair
pairs_to_receptions x [] = []
pairs_to_receptions x (y ∷ ys) = if leads_across x y then record { earlier = x; later = y.node } ∷ pairs_to_receptions x ys else pairs_to_receptions x ys

-- The same from each of several nodes.
abbrev pub pairs_between : List Node → List Reception → List OrderPair
pairs_between [] ys = []
pairs_between (x ∷ xs) ys = pairs_to_receptions x ys ++ pairs_between xs ys

-- ---- pairs that are the same

abbrev pub is_same_pair : OrderPair → OrderPair → Bool
is_same_pair p q = same_node p.earlier q.earlier && same_node p.later q.later

abbrev pub is_other_pair : OrderPair → OrderPair → Bool
is_other_pair p q = not (is_same_pair p q)

-- The pair is in neither of the lists.
abbrev pub IsInNeither : List OrderPair → List OrderPair → OrderPair → Type 0
IsInNeither first second p = (IsIn p first → ⊥) × (IsIn p second → ⊥)
