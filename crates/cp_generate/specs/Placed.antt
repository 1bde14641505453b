-- Where the parts of a form stand if it is in normal spelling.
use Rattle.std.specs.Prelude.{List, [], ◌∷◌}
use Rattle.cp_base.specs.declared.place.Place.{Place}
use Rattle.cp_sexpr.specs.Pieces.{space, open_parenthesis, after_byte, place_after}
use Rattle.cp_sexpr.specs.Spelling.{spelling, top_gap, top_spelling}
use Rattle.cp_sexpr.specs.Syntax.{Form, symbol, string, number, list, Forms, none, more}

abbrev mutual
  -- The form with the places that it has if its spelling begins here.
  pub placed : Place → Form → Form
  placed here (symbol p t) = symbol here t
  placed here (string p t) = string here t
  placed here (number p n) = number here n
  placed here (list p fs) = list here (items_placed (after_byte here open_parenthesis) fs)

  -- the items of a list, of which the first begins here
  pub items_placed : Place → Forms → Forms
  items_placed here none = none
  items_placed here (more f fs) = more (placed here f) (items_placed (after_byte (place_after here (spelling f)) space) fs)

-- the items of a top form, behind others
abbrev pub later_placed : Place → Forms → Forms
later_placed here none = none
later_placed here (more f fs) = more (placed (place_after here (top_gap f)) f) (later_placed (place_after (place_after here (top_gap f)) (spelling f)) fs)

abbrev pub top_items_placed : Place → Forms → Forms
top_items_placed here none = none
top_items_placed here (more f fs) = more (placed here f) (later_placed (place_after here (spelling f)) fs)

abbrev pub top_placed : Place → Form → Form
top_placed here (list p fs) = list here (top_items_placed (after_byte here open_parenthesis) fs)
top_placed here f = placed here f

-- top forms, one behind the other
abbrev pub all_placed : Place → List Form → List Form
all_placed here [] = []
all_placed here (f ∷ fs) = top_placed here f ∷ all_placed (place_after here (top_spelling f)) fs
