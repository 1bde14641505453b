-- Top forms that are written, and where each ends.
use Rattle.std.specs.Prelude.{◌≡◌, ℕ, ◌+◌, List, [], ◌∷◌, ◌++◌, length, Bool, Option, Some, None}
use Rattle.cp_model.specs.Tree.{Label, Tree}
use Rattle.cp_language.specs.Problems.{Problem}
use Rattle.cp_sexpr.specs.Syntax.{Form}
use Rattle.cp_sexpr.specs.Spelling.{top_spelling}
use Rattle.cp_language.specs.Report.{text_of_forms}
use Rattle.cp_language.specs.ShapesText.{chosen_tree_forms}

-- Where each of these top forms ends in a text, the first beginning at n.
abbrev pub ends_from : ℕ → List Form → List ℕ
ends_from n [] = []
ends_from n (f ∷ fs) = (n + length (top_spelling f)) ∷ ends_from (n + length (top_spelling f)) fs

-- These top forms were written behind a text, and their ends behind others.
pub record HasAppendedForms (text ends new_text new_ends : List ℕ) (fs : List Form) : Type 0 where
  pub text_grew : new_text ≡ text ++ text_of_forms fs
  pub ends_grew : new_ends ≡ ends ++ ends_from (length text) fs

-- All these top forms were written but for the rest.
pub record Leaves (text ends new_text new_ends : List ℕ) (whole rest : List Form) : Type 0 where
  pub done : List Form
  pub split : whole ≡ done ++ rest
  pub written : HasAppendedForms text ends new_text new_ends done

-- What is written for a form of the input, of a problem with the chosen labels of the first of the trees that are left.
abbrev pub entry_forms : (Label → Bool) → Form → Option Problem → List Tree → List Form
entry_forms chosen f None ts = f ∷ []
entry_forms chosen f (Some p) [] = f ∷ []
entry_forms chosen f (Some p) (t ∷ ts) = f ∷ chosen_tree_forms chosen p t

-- The trees that are left behind it.
abbrev pub trees_behind : Option Problem → List Tree → List Tree
trees_behind None ts = ts
trees_behind (Some p) [] = []
trees_behind (Some p) (t ∷ ts) = ts
