-- The spelling of a list's items behind others.
use Rattle.std.specs.Prelude.{ℕ, Bool, true, false, List, [], ◌∷◌, ◌++◌}
use Rattle.cp_sexpr.specs.Syntax.{Form}
use Rattle.cp_sexpr.specs.Pieces.{line_feed, space}
use Rattle.cp_sexpr.specs.Spelling.{spelling}
use Rattle.cp_sexpr.specs.ListSpelling.{gap_before}

-- What stands before a list that is an item of a top form, or of another list.
abbrev pub list_gap : Bool → List ℕ
list_gap true = line_feed ∷ space ∷ space ∷ []
list_gap false = space ∷ []

-- One item, of a top form or of another list, with what stands before it.
abbrev pub item_text : Bool → Form → List ℕ
item_text is_top f = gap_before is_top f ++ spelling f

-- Items, one behind the other.
abbrev pub items_text : Bool → List Form → List ℕ
items_text is_top [] = []
items_text is_top (f ∷ fs) = item_text is_top f ++ items_text is_top fs
