-- Faults of a text.
use Rattle.std.specs.Prelude.{List, [], ◌∷◌, Bool, true, false}
use Rattle.cp_base.specs.declared.place.Place.{Place}
use Rattle.cp_base.specs.declared.place.Code.{Code}
use Rattle.cp_base.specs.declared.place.Refusal.{Refusal}
use Rattle.cp_sexpr.specs.Syntax.{Form, symbol, string, number, list, Forms, none, more}

abbrev pub fault : Place → Code → List Refusal
fault at c = record { place = at; code = c } ∷ []

-- the fault where the test fails
abbrev pub fault_unless : Bool → Place → Code → List Refusal
fault_unless true at c = []
fault_unless false at c = fault at c

abbrev pub place_of : Form → Place
place_of (symbol at t) = at
place_of (string at t) = at
place_of (number at n) = at
place_of (list at fs) = at

-- the items of a list, as a list
abbrev pub items_of : Forms → List Form
items_of none = []
items_of (more f fs) = f ∷ items_of fs
