-- Events that are lent.
use Rattle.cp_model.specs.Term.{Term}
use Rattle.cp_model.specs.declared.strand.Event.{Event}
use Rattle.cp_skel.specs.declared.events.Lent.{Lent}
use Rattle.cp_skel.specs.declared.events.Lent.TheVariants.{Held, Made}

-- The event.
abbrev pub lent_event : Lent → Event Term
lent_event (Held e) = e.now
lent_event (Made e) = e
