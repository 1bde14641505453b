-- The test of an unrealised skeleton.
use Rattle.std.specs.Prelude.{◌≡◌, ◌<◌, List, Some}
use Rattle.cp_lists.specs.Lists.{item_at}
use Rattle.cp_model.specs.Term.{Term}
use Rattle.cp_model.specs.declared.strand.Event.TheVariants.{Receive as recv}
use Rattle.cp_model.specs.declared.node.Node.{Node}
use Rattle.cp_model.specs.Skeleton.{listener, term_event_at, Skeleton}
use Rattle.cp_model.specs.Derivable.{DerivableAt}
use Rattle.cp_model.specs.declared.step.Step.{Step}
use Rattle.cp_derive.specs.Components.{IsFirstUnderivable}
use Rattle.cp_derive.specs.Unrealised.{IsUnrealisedAt, IsListedBefore}

-- The node is a listener's.
pub record IsOnListener (k : Skeleton) (n : Node) : Type 0 where
  pub term : Term
  pub on_listener : item_at k.strands n.strand ≡ Some (listener term)

-- The node at which the skeleton is tested: the unrealised listener of the highest strand; where no listener is unrealised, the
-- unrealised node of the lowest strand, and there of the lowest index.
pub data IsTestedAt (k : Skeleton) (n : Node) : Type 0 where
  last_listener : IsOnListener k n → IsUnrealisedAt k n → ((m : Node) → IsOnListener k m → IsUnrealisedAt k m → n.strand < m.strand → ⊥) → IsTestedAt k n
  first_reception : IsUnrealisedAt k n → ((m : Node) → IsOnListener k m → IsUnrealisedAt k m → ⊥) → ((m : Node) → IsUnrealisedAt k m → IsListedBefore m n → ⊥) → IsTestedAt k n

-- The test of the skeleton: it is tested at the node, and the critical term is the first component of the message received there
-- that cannot be derived.
pub record IsTestOf (k : Skeleton) (n : Node) (c : Term) : Type 0 where
  pub at_node : IsTestedAt k n
  pub message : Term
  pub reception : term_event_at k.strands n ≡ Some (recv message)
  pub path : List Step
  pub critical : IsFirstUnderivable (DerivableAt k n) message path c
