-- What is known of a node of a skeleton, and what role strands send before it.
use Rattle.std.specs.Prelude.{◌≡◌, ◌↔◌, List, true}
use Rattle.cp_lists.specs.Lists.{IsIn}
use Rattle.cp_model.specs.Term.{Term}
use Rattle.cp_model.specs.declared.strand.Event.TheVariants.{Send as send}
use Rattle.cp_model.specs.Skeleton.{Skeleton, Before}
use Rattle.cp_model.specs.Derivable.{DerivableAt}
use Rattle.cp_skel.specs.Events.{LocatedEvent}
use Rattle.cp_derive.specs.Given.{Given, IsDerivable}
pub use Rattle.cp_skel.specs.Preceding.{SkeletonNode}

-- What is known of a node: its skeleton, the events of which are listed, and what is derivable there.
pub record IsAtNode (at : SkeletonNode) (listed : Skeleton) (known : Given) : Type 0 where
  pub same : listed ≡ at.skeleton
  pub derivable : (t : Term) → IsDerivable known t ↔ DerivableAt at.skeleton at.node t

-- A role strand sends the term at an event that is before the node.
pub record SendsBefore (at : SkeletonNode) (o : LocatedEvent) (t : Term) : Type 0 where
  pub by_role : o.by_role ≡ true
  pub sends : o.event ≡ send t
  pub before : Before at.skeleton o.node at.node

-- One of the events does.
pub record IsSentAmong (at : SkeletonNode) (os : List LocatedEvent) (t : Term) : Type 0 where
  pub event : LocatedEvent
  pub listed : IsIn event os
  pub by : SendsBefore at event t

-- The terms are those that are sent so at one of the events.
pub record AreSentBefore (at : SkeletonNode) (os : List LocatedEvent) (ts : List Term) : Type 0 where
  pub each : (t : Term) → IsSentAmong at os t → IsIn t ts
  pub only : (t : Term) → IsIn t ts → IsSentAmong at os t
