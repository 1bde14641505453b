-- The first of the misfits met so far.
use Rattle.std.specs.Prelude.{List, Option}
use Rattle.cp_base.specs.declared.place.Place.{Place}
use Rattle.cp_scope.specs.FirstOf as first
use Rattle.cp_report.specs.Misfits.{place_before}

-- The first of a place and the one before it; of two that are equal the one before.
abbrev pub earlier_of : Option Place → Place → Place
earlier_of before p = first.earlier_of place_before before p

-- The first of these places and the one before them.
abbrev pub first_onto : Option Place → List Place → Option Place
first_onto before places = first.first_onto place_before before places

-- The first of a place, if there is one, and the one before it.
abbrev pub merged : Option Place → Option Place → Option Place
merged before found = first.merged place_before before found

-- The first of these places, or the one before them if there is one.
abbrev pub onto_none : Option Place → List Place → Option Place
onto_none before places = first.onto_none place_before before places
