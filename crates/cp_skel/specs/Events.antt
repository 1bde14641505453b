-- The events of a skeleton in a list, each with its node.
use Rattle.std.specs.Prelude.{ℕ, suc, Bool, true, false, List, [], ◌∷◌, ◌++◌}
use Rattle.cp_model.specs.Term.{Term, variables_of}
use Rattle.cp_model.specs.declared.variable.Variable.{Variable}
use Rattle.cp_model.specs.Strand.{payload}
use Rattle.cp_model.specs.declared.strand.Event.{Event}
use Rattle.cp_model.specs.declared.node.Node.{Node}
use Rattle.cp_model.specs.Bundle.{node_at}
use Rattle.cp_model.specs.Skeleton.{SkeletonStrand, instance, listener, skeleton_trace, Skeleton}

-- An event, the node where it stands, and whether a role strand is there.
pub record LocatedEvent : Type 0 where
  pub node : Node
  pub event : Event Term
  pub by_role : Bool

-- The strand is an instance of a role.
abbrev pub is_role_strand : SkeletonStrand → Bool
is_role_strand (instance role height terms) = true
is_role_strand (listener t) = false

-- The events of strand number s, the first of them at place i.
abbrev pub located_events_on : ℕ → ℕ → Bool → List (Event Term) → List LocatedEvent
located_events_on s i r [] = []
located_events_on s i r (e ∷ es) = record { node = node_at s i; event = e; by_role = r } ∷ located_events_on s (suc i) r es

-- The events of strands, the first of which has number s, by strand and then by index.
abbrev pub located_events_from : ℕ → List SkeletonStrand → List LocatedEvent
located_events_from s [] = []
located_events_from s (x ∷ xs) = located_events_on s 0 (is_role_strand x) (skeleton_trace x) ++ located_events_from (suc s) xs

-- The events of a skeleton.
abbrev pub events_of : Skeleton → List LocatedEvent
events_of k = located_events_from 0 k.strands

-- The variables that occur in the messages of these events.
abbrev pub variables_of_located : List LocatedEvent → List Variable
variables_of_located [] = []
variables_of_located (o ∷ os) = variables_of (payload o.event) ++ variables_of_located os
