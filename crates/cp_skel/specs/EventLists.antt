-- Lists of events that are owned or lent.
use Rattle.std.specs.Prelude.{List}
use Rattle.cp_skel.specs.declared.events.EventList.{EventList}
use Rattle.cp_skel.specs.declared.events.EventList.TheVariants.{Owned, Borrowed}
use Rattle.cp_skel.specs.Events.{LocatedEvent}

-- The events in the list.
abbrev pub events_in : EventList → List LocatedEvent
events_in (Owned os) = os.items
events_in (Borrowed os) = os.now
