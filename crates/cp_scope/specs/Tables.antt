-- Tables that find variables by their identifiers.
use Rattle.std.specs.Prelude.{◌≡◌, ℕ, List, Vec}
use Rattle.std.specs.HashMap.{HashMap, get_by}
use Rattle.std.specs.Str.{bytes_eq}
use Rattle.cp_model.specs.declared.variable.Declaration.{Declaration}
use Rattle.cp_model.specs.declared.variable.Variable.{Variable}
use Rattle.cp_language.specs.Terms.{variable_named}

-- The table has for each identifier the variable that is declared by it.
abbrev pub AreVariablesOf : List Declaration → {A S : Type 0} → HashMap (Vec ℕ A) Variable S → Type 0
AreVariablesOf ds table = (t : List ℕ) → get_by (λ k. bytes_eq t k.items) table ≡ variable_named ds t
