-- The forms of flagged variables.
use Rattle.std.specs.Prelude.{ℕ, ◌+◌, ◌||◌, List, [], ◌∷◌, get_or, Bool, false, if◌then◌else◌}
use Rattle.cp_lists.specs.Lists.{item_at}
use Rattle.cp_model.specs.Term.{apply_to, variable_term, Substitution}
use Rattle.cp_model.specs.declared.variable.Variable.{Variable}
use Rattle.cp_model.specs.declared.variable.Declaration.{Declaration}
use Rattle.cp_model.specs.Same.{has_variable}
use Rattle.cp_language.specs.Names.{sort_text}
use Rattle.cp_language.specs.Printed.{term_form, variable, word, plain_list}
use Rattle.cp_language.specs.Report.{name_or_none}
use Rattle.cp_sexpr.specs.Syntax.{Form}

-- Each flagged variable by its name, with its sort; the first of the list has number n.
abbrev pub vars_by : List (List ℕ) → List Bool → ℕ → List Declaration → List Form
vars_by names flags n [] = []
vars_by names flags n (d ∷ ds) =
    if get_or flags n false then plain_list (word (name_or_none (item_at names n)) ∷ word (sort_text d.sort) ∷ []) ∷ vars_by names flags (n + 1) ds
    else vars_by names flags (n + 1) ds

-- Whether one of these variables is flagged; the first of the list has number n.
abbrev pub has_vars : List Bool → ℕ → List Declaration → Bool
has_vars flags n [] = false
has_vars flags n (d ∷ ds) = get_or flags n false || has_vars flags (n + 1) ds

-- Each variable of a role that occurs in a prefix, by its identifier, with what it becomes; the first of the list has number n.
abbrev pub maplets_by : (Variable → Form) → List Variable → Substitution → ℕ → List Declaration → List Form
maplets_by named prefix terms n [] = []
maplets_by named prefix terms n (d ∷ ds) =
    if has_variable prefix (variable d.sort n) then plain_list (word d.identifier ∷ term_form named (apply_to terms (variable_term (variable d.sort n))) ∷ []) ∷ maplets_by named prefix terms (n + 1) ds
    else maplets_by named prefix terms (n + 1) ds
