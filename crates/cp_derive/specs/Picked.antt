-- The unrealised receptions picked out of a list of events.
use Rattle.std.specs.Prelude.{List, [], ◌∷◌}
use Rattle.cp_lists.specs.Lists.{IsIn}
use Rattle.cp_model.specs.declared.node.Node.{Node}
use Rattle.cp_model.specs.Skeleton.{Skeleton}
use Rattle.cp_skel.specs.Events.{LocatedEvent}
use Rattle.cp_derive.specs.Unrealised.{IsUnrealisedAt, IsRealisedAt}

-- The nodes are those of the events that are unrealised receptions, in their order.
pub data Picks (k : Skeleton) : List LocatedEvent → List Node → Type 0 where
  no_more : Picks k [] []
  picks : {o : LocatedEvent} {os : List LocatedEvent} {ns : List Node} → IsUnrealisedAt k o.node → Picks k os ns → Picks k (o ∷ os) (o.node ∷ ns)
  passes : {o : LocatedEvent} {os : List LocatedEvent} {ns : List Node} → IsRealisedAt k o.node → Picks k os ns → Picks k (o ∷ os) ns

-- All of the first events are among the second.
abbrev pub AreEventsAmong : List LocatedEvent → List LocatedEvent → Type 0
AreEventsAmong os ps = (o : LocatedEvent) → IsIn o os → IsIn o ps
