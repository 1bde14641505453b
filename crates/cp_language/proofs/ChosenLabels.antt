-- A report of all its labels is the report.
use Rattle.std.proofs.Common.{◌≡◌, ℕ, suc, List, [], ◌∷◌, ◌++◌, true, Option, Some, None, refl, ap, ap₂}
use Rattle.cp_model.specs.Tree.{Label, Tree}
use Rattle.cp_sexpr.specs.Syntax.{Form}
use Rattle.cp_language.specs.Problems.{Problem}
use Rattle.cp_language.specs.Input.{Entry, form_of, stated}
use Rattle.cp_language.specs.Names.{problem_names}
use Rattle.cp_language.specs.Report.{labels_from, label_form, status_form, tree_forms, report_from, report_forms, report_text, text_of_forms}
use Rattle.cp_language.specs.ShapesText.{chosen_from, chosen_tree_forms, chosen_report_from, chosen_report_forms, chosen_text}

all_labels : (names : List (List ℕ)) (n : ℕ) (ls : List Label) → chosen_from (λ l. true) names n ls ≡ labels_from names n ls
all_labels names n [] = refl
all_labels names n (l ∷ ls) = ap (λ fs. label_form names n l ∷ fs) (all_labels names (suc n) ls)

all_of_tree : (p : Problem) (t : Tree) → chosen_tree_forms (λ l. true) p t ≡ tree_forms p t
all_of_tree p t = ap (λ fs. fs ++ status_form t ∷ []) (all_labels (problem_names p.declared p.variables) 0 t.labels)

all_behind : (f : Form) (o : Option Problem) (ts : List Tree) (chosen whole : List Tree → List Form) → ((us : List Tree) → chosen us ≡ whole us) → chosen_report_from (λ l. true) f o ts chosen ≡ report_from f o ts whole
all_behind f None ts chosen whole same = ap (λ fs. f ∷ fs) (same ts)
all_behind f (Some p) [] chosen whole same = ap (λ fs. f ∷ fs) (same [])
all_behind f (Some p) (t ∷ ts) chosen whole same = ap₂ (λ (here behind : List Form). f ∷ (here ++ behind)) (all_of_tree p t) (same ts)

pub all_forms : (entries : List Entry) (trees : List Tree) → chosen_report_forms (λ l. true) entries trees ≡ report_forms entries trees
all_forms [] ts = refl
all_forms (e ∷ es) ts = all_behind (form_of e) (stated e) ts (chosen_report_forms (λ l. true) es) (report_forms es) (all_forms es)

-- the text of a report of all labels
pub all_text : (entries : List Entry) (trees : List Tree) → chosen_text (λ l. true) entries trees ≡ report_text entries trees
all_text entries trees = ap text_of_forms (all_forms entries trees)
