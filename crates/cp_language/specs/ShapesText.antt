-- The report with some labels of its trees alone, and so the report of shapes.
use Rattle.std.specs.Prelude.{ℕ, suc, List, [], ◌∷◌, ◌++◌, Bool, true, false, if◌then◌else◌, Option, Some, None}
use Rattle.cp_model.specs.Tree.{Label, Tree}
use Rattle.cp_model.specs.declared.tree.Mark.{Mark}
use Rattle.cp_model.specs.declared.tree.Mark.TheVariants.{Shape as shape}
use Rattle.cp_sexpr.specs.Syntax.{Form}
use Rattle.cp_language.specs.Problems.{Problem}
use Rattle.cp_language.specs.Input.{Entry, form_of, stated}
use Rattle.cp_language.specs.Names.{problem_names}
use Rattle.cp_language.specs.Report.{label_form, status_form, text_of_forms}

-- ---- some labels

-- The forms of those labels that are chosen, the first of the list having number n: each keeps its number and its items.
abbrev pub chosen_from : (Label → Bool) → List (List ℕ) → ℕ → List Label → List Form
chosen_from chosen of_problem n [] = []
chosen_from chosen of_problem n (l ∷ ls) =
    if chosen l then label_form of_problem n l ∷ chosen_from chosen of_problem (suc n) ls
    else chosen_from chosen of_problem (suc n) ls

-- The chosen labels of a problem's tree, and its status, which speaks of the whole tree.
abbrev pub chosen_tree_forms : (Label → Bool) → Problem → Tree → List Form
chosen_tree_forms chosen p t = chosen_from chosen (problem_names p.declared p.variables) 0 t.labels ++ status_form t ∷ []

-- The forms of the input, each problem followed by the chosen labels of its tree and by its status; the trees stand in the
-- order of the problems.
abbrev pub chosen_report_from : (Label → Bool) → Form → Option Problem → List Tree → (List Tree → List Form) → List Form
chosen_report_from chosen f None ts rest = f ∷ rest ts
chosen_report_from chosen f (Some p) [] rest = f ∷ rest []
chosen_report_from chosen f (Some p) (t ∷ ts) rest = f ∷ (chosen_tree_forms chosen p t ++ rest ts)

abbrev pub chosen_report_forms : (Label → Bool) → List Entry → List Tree → List Form
chosen_report_forms chosen [] ts = []
chosen_report_forms chosen (e ∷ es) ts = chosen_report_from chosen (form_of e) (stated e) ts (chosen_report_forms chosen es)

-- The text of a report of the chosen labels.
abbrev pub chosen_text : (Label → Bool) → List Entry → List Tree → List ℕ
chosen_text chosen entries trees = text_of_forms (chosen_report_forms chosen entries trees)

-- ---- shapes

abbrev pub is_shape_mark : Option Mark → Bool
is_shape_mark (Some shape) = true
is_shape_mark _ = false

-- The label is marked as a shape.
abbrev pub is_marked_shape : Label → Bool
is_marked_shape l = is_shape_mark l.mark

abbrev pub shapes_forms : List Entry → List Tree → List Form
shapes_forms = chosen_report_forms is_marked_shape

-- The text of a report without the labels that are not marked as shapes.
abbrev pub shapes_text : List Entry → List Tree → List ℕ
shapes_text = chosen_text is_marked_shape
