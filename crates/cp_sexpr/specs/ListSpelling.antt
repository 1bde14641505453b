-- The spelling of a list, by whether it is a top form.
use Rattle.std.specs.Prelude.{ℕ, Bool, true, false, List, [], ◌∷◌, ◌++◌}
use Rattle.cp_sexpr.specs.Syntax.{Form, Forms}
use Rattle.cp_sexpr.specs.Pieces.{space, open_parenthesis, close_parenthesis}
use Rattle.cp_sexpr.specs.Spelling.{first_spelling, next_spelling, top_gap, next_top_spelling, first_top_spelling}

-- What stands before an item that is not the first.
abbrev pub gap_before : Bool → Form → List ℕ
gap_before true f = top_gap f
gap_before false f = space ∷ []

-- The items behind others.
abbrev pub next_by : Bool → Forms → List ℕ
next_by true fs = next_top_spelling fs
next_by false fs = next_spelling fs

-- The items of the list.
abbrev pub first_by : Bool → Forms → List ℕ
first_by true fs = first_top_spelling fs
first_by false fs = first_spelling fs

-- The list.
abbrev pub list_spelling : Bool → Forms → List ℕ
list_spelling is_top fs = open_parenthesis ∷ (first_by is_top fs ++ close_parenthesis ∷ [])
