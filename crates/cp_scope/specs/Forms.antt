-- Forms of the program, one level deep.
use Rattle.std.specs.Prelude.{ℕ, List, map, Option, Some, None}
use Rattle.cp_sexpr.specs.Syntax.{Form, symbol, string, number, list}
use Rattle.cp_sexpr.specs.View.{view}
use Rattle.cp_language.specs.Roles as language
use Rattle.cp_scope.specs.declared.forms.HeadedList.{HeadedList}

-- The text of a symbol.
abbrev pub symbol_in : Form → Option (List ℕ)
symbol_in (symbol at t) = Some t
symbol_in (string at t) = None
symbol_in (number at n) = None
symbol_in (list at fs) = None

abbrev pub headed_view : HeadedList → language.Headed
headed_view h = record { at = h.place; head = h.head.now; items = map view h.items.now }
