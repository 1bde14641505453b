-- Locals one part at a time.
use Rattle.std.specs.Prelude.{List, [], ◌∷◌, Option, None}
use Rattle.cp_model.specs.declared.sort.Sort.{Sort}
use Rattle.cp_model.specs.declared.variable.Variable.{Variable}
use Rattle.cp_sexpr.specs.Syntax.{Form, symbol, string, number, list}
use Rattle.cp_language.specs.Words.{sort_word}
use Rattle.cp_report.specs.Spelled.{sort_or_none, local_with}

-- The sort that a symbol names.
abbrev pub sort_symbol : Form → Option Sort
sort_symbol (symbol at t) = sort_or_none (sort_word t)
sort_symbol (string at t) = None
sort_symbol (number at n) = None
sort_symbol (list at fs) = None

-- The local whose number stands alone behind its sort.
abbrev pub local_alone : Option Sort → List Form → Option Variable
local_alone s [] = None
local_alone s (f ∷ []) = local_with s f
local_alone s (f ∷ g ∷ fs) = None
