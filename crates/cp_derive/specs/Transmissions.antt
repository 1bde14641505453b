-- What role strands send, among the events of a skeleton.
use Rattle.std.specs.Prelude.{Bool, true, false, List, [], ◌∷◌}
use Rattle.cp_model.specs.Term.{Term}
use Rattle.cp_model.specs.declared.strand.Event.{Event}
use Rattle.cp_model.specs.declared.strand.Event.TheVariants.{Send as send, Receive as recv}
use Rattle.cp_model.specs.declared.node.Node.{Node}
use Rattle.cp_skel.specs.Events.{LocatedEvent}
-- A message that a role strand sends at a node.
pub use Rattle.cp_derive.specs.declared.transmission.Transmission.{Transmission}

-- What role strands send, among these events.
abbrev pub if_sent : Node → Event Term → Bool → List Transmission → List Transmission
if_sent n (send t) true ts = record { node = n; message = t } ∷ ts
if_sent n (send t) false ts = ts
if_sent n (recv t) r ts = ts

abbrev pub transmissions_among : List LocatedEvent → List Transmission
transmissions_among [] = []
transmissions_among (o ∷ os) = if_sent o.node o.event o.by_role (transmissions_among os)
