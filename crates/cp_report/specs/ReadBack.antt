-- A report read back: where forms are no report, and the report that they are.
use Rattle.std.specs.Prelude.{◌≡◌, ◌==◌, ℕ, suc, List, [], ◌∷◌, ◌++◌, length, map, codes, if◌then◌else◌, Option, Some, None, Result, Ok, Err}
use Rattle.cp_base.specs.declared.place.Place.{Place}
use Rattle.cp_base.specs.declared.place.Refusal.{Refusal}
use Rattle.cp_model.specs.Strand.{Protocol}
use Rattle.cp_model.specs.Tree.{Label, Tree, expanded_count, shapes_of}
use Rattle.cp_model.specs.declared.tree.Outcome.{Outcome}
use Rattle.cp_model.specs.declared.tree.Outcome.TheVariants.{Complete as complete, LimitSteps as at_step_limit, LimitStrands as at_strand_limit}
use Rattle.cp_model.specs.Same.{same_text}
use Rattle.cp_sexpr.specs.Syntax.{Form, Forms, forms_of}
use Rattle.cp_language.specs.Words.{is_one_of}
use Rattle.cp_language.specs.Faults.{place_of, items_of}
use Rattle.cp_language.specs.Roles.{headed, text_of_symbol}
use Rattle.cp_language.specs.Problems.{name_in_front, Problem}
use Rattle.cp_language.specs.Input.{stated_problem, protocols_behind, faults_of, Entry, input_of}
use Rattle.cp_report.specs.Misfits.{misfit, unless_misfit, entries_misfits, number_misfits, symbol_misfits, IsFirstMisfit}
use Rattle.cp_report.specs.Heads.{forms_after_head, is_of_tree, is_label}
use Rattle.cp_report.specs.Labels.{label_misfits, label_of}

-- ---- status forms

abbrev pub word_misfits : List ℕ → Form → List Place
word_misfits w f = symbol_misfits (λ t. same_text t w) f

abbrev pub count_misfits : ℕ → Form → List Place
count_misfits n f = number_misfits (λ m. m == n) f

-- `labels L expanded E shapes S`, the true numbers of a tree with these labels.
abbrev pub counts : List Label → List (Form → List Place)
counts labels =
    word_misfits (codes "labels") ∷ count_misfits (length labels)
    ∷ word_misfits (codes "expanded") ∷ count_misfits (expanded_count labels)
    ∷ word_misfits (codes "shapes") ∷ count_misfits (length (shapes_of labels)) ∷ []

-- Behind the first word of the outcome: that of a limit has a second one.
abbrev pub behind_outcome : List ℕ → List (Form → List Place) → List (Form → List Place)
behind_outcome w kinds = if same_text w (codes "limit") then symbol_misfits (λ t. is_one_of t (codes "steps" ∷ codes "strands" ∷ [])) ∷ kinds else kinds

-- A status form behind its head: the outcome and the counts. Whether the outcome is that of the marks is not asked.
abbrev pub status_entries_misfits : List Label → Place → List Form → List Place
status_entries_misfits labels at [] = misfit at
status_entries_misfits labels at (f ∷ fs) =
    unless_misfit (symbol_misfits (λ t. is_one_of t (codes "complete" ∷ codes "limit" ∷ [])) f) (entries_misfits (behind_outcome (text_of_symbol f) (counts labels)) at fs)

abbrev pub status_misfits : List Label → Form → List Place
status_misfits labels f = status_entries_misfits labels (place_of f) (forms_after_head f)

abbrev pub outcome_of : List Form → Outcome
outcome_of [] = complete
outcome_of (f ∷ fs) =
    if same_text (text_of_symbol f) (codes "complete") then complete else
    if same_text (name_in_front fs) (codes "steps") then at_step_limit else at_strand_limit

-- ---- a form of the input, and what stands behind it

-- A form of the input with the label forms and status forms directly behind it.
pub record Section : Type 0 where
  pub form : Form
  pub behind : List Form

-- The label forms and status forms in front of all forms of the input, and then these.
pub record Sections : Type 0 where
  pub front : List Form
  pub sections : List Section

abbrev pub with_form : Form → Sections → Sections
with_form f s =
    if is_of_tree f then record { front = f ∷ s.front; sections = s.sections }
    else record { front = []; sections = record { form = f; behind = s.front } ∷ s.sections }

abbrev pub sections_of : List Form → Sections
sections_of [] = record { front = []; sections = [] }
sections_of (f ∷ fs) = with_form f (sections_of fs)

-- The forms of the input.
abbrev pub input_forms : List Section → Forms
input_forms ss = forms_of (map (λ s. s.form) ss)

-- The label forms that stand first, and what follows them.
abbrev pub labels_in_front : List Form → List Form
labels_in_front [] = []
labels_in_front (f ∷ fs) = if is_label f then f ∷ labels_in_front fs else []

abbrev pub behind_labels : List Form → List Form
behind_labels [] = []
behind_labels (f ∷ fs) = if is_label f then behind_labels fs else f ∷ fs

-- ---- where forms are no report

abbrev pub places_of : List Form → List Place
places_of fs = map place_of fs

-- The label forms of a tree, the first of them number i.
abbrev pub labels_misfits : Problem → Option (List Form) → ℕ → List Form → List Place
labels_misfits p tree i [] = []
labels_misfits p tree i (f ∷ fs) = label_misfits p tree i f ++ labels_misfits p tree (suc i) fs

-- The label forms, if a status form stands behind them.
abbrev pub if_whole : List Form → List Form → Option (List Form)
if_whole labels [] = None
if_whole labels (f ∷ fs) = Some labels

-- One status form has to stand behind the labels, before the next form of the input, which stands here.
abbrev pub ending_misfits : List Label → Place → List Form → List Place
ending_misfits labels next [] = misfit next
ending_misfits labels next (f ∷ fs) = status_misfits labels f ++ places_of fs

-- Behind a problem stand the label forms and the status form of its tree; behind another form of the input stands none.
abbrev pub tree_misfits : Option Problem → Place → List Form → List Place
tree_misfits None next behind = places_of behind
tree_misfits (Some p) next behind =
    labels_misfits p (if_whole (labels_in_front behind) (behind_labels behind)) 0 (labels_in_front behind)
    ++ ending_misfits (map (label_of p) (labels_in_front behind)) next (behind_labels behind)

-- Where the text ends, a status form that is missing is a misfit at the first form of the text.
abbrev pub next_place : Place → List Section → Place
next_place first [] = first
next_place first (s ∷ ss) = place_of s.form

abbrev pub trees_misfits : Place → List Protocol → List Section → List Place
trees_misfits first above [] = []
trees_misfits first above (s ∷ ss) =
    tree_misfits (stated_problem above s.form) (next_place first ss) s.behind ++ trees_misfits first (protocols_behind (headed s.form) above) ss

abbrev pub fault_places : List Refusal → List Place
fault_places rs = map (λ r. r.place) rs

abbrev pub first_place : List Form → Place
first_place [] = record { line = 1; col = 1 }
first_place (f ∷ fs) = place_of f

-- All places at which the forms fit no report: faults of the forms of the input, label forms and status forms where
-- none may stand, and what does not fit in a tree.
abbrev pub misfits : Forms → List Place
misfits fs =
    let s = sections_of (items_of fs) in
    fault_places (faults_of (input_forms s.sections)) ++ places_of s.front ++ trees_misfits (first_place (items_of fs)) [] s.sections

-- ---- the report that they are

abbrev pub tree_of : Problem → List Form → Tree
tree_of p behind = record { labels = map (label_of p) (labels_in_front behind); outcome = outcome_in (behind_labels behind) }
  where
    outcome_in : List Form → Outcome
    outcome_in [] = complete
    outcome_in (f ∷ fs) = outcome_of (forms_after_head f)

abbrev pub tree_onto : Option Problem → List Form → List Tree → List Tree
tree_onto None behind trees = trees
tree_onto (Some p) behind trees = tree_of p behind ∷ trees

abbrev pub trees_from : List Protocol → List Section → List Tree
trees_from above [] = []
trees_from above (s ∷ ss) = tree_onto (stated_problem above s.form) s.behind (trees_from (protocols_behind (headed s.form) above) ss)

-- A report: the forms of the input, each with what it states, and a tree for each problem, in their order.
pub record Report : Type 0 where
  pub entries : List Entry
  pub trees : List Tree

abbrev pub report_of : Forms → Report
report_of fs =
    let s = sections_of (items_of fs) in
    record { entries = input_of (input_forms s.sections); trees = trees_from [] s.sections }

-- Forms are read back: they are a report where nothing is misfit, and this one; otherwise the first misfit is answered.
abbrev pub IsReadBack : Forms → Result Report Place → Type 0
IsReadBack fs (Ok report) = (misfits fs ≡ []) × (report ≡ report_of fs)
IsReadBack fs (Err at) = IsFirstMisfit (misfits fs) at
