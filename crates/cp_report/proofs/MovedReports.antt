-- Where the forms of a report stand does not matter for whether they are one, nor for what it is.
use Rattle.std.proofs.Common.{◌≡◌, ℕ, suc, List, [], ◌∷◌, ◌++◌, true, false, refl, ◌∙◌, ap}
use Rattle.std.specs.Prelude.{Bool, Option, Some, None, map, length, option_map, codes, ◌==◌, if◌then◌else◌}
use Rattle.cp_base.specs.declared.place.Place.{Place}
use Rattle.cp_base.specs.declared.place.Refusal.{Refusal}
use Rattle.cp_model.specs.Strand.{Protocol}
use Rattle.cp_model.specs.Tree.{Label, Tree, expanded_count, shapes_of}
use Rattle.cp_model.specs.declared.tree.Outcome.{Outcome}
use Rattle.cp_model.specs.declared.tree.Outcome.TheVariants.{Complete as complete, LimitSteps as at_step_limit, LimitStrands as at_strand_limit}
use Rattle.cp_model.specs.Same.{same_text}
use Rattle.cp_sexpr.specs.Syntax.{Form, Forms}
use Rattle.cp_sexpr.specs.Pieces.{start}
use Rattle.cp_sexpr.specs.ReadBack.{unplaced, all_unplaced}
use Rattle.cp_language.specs.declared.words.TopHead.{TopHead}
use Rattle.cp_language.specs.declared.words.TopHead.TheVariants.{Protocol as protocol_form, Problem as problem_form, Free as free_form, OutOfProfile as top_out_of_profile, Unknown as no_top}
use Rattle.cp_language.specs.Words.{is_one_of, top_head}
use Rattle.cp_language.specs.Faults.{place_of, items_of}
use Rattle.cp_language.specs.Roles.{Headed, headed, text_of_symbol}
use Rattle.cp_language.specs.Problems.{name_in_front, Problem}
use Rattle.cp_language.specs.Input.{protocol_names, top_faults, headed_top_faults, protocols_onto, protocols_behind, faults_from, faults_of, Entry, plain_entry, protocol_entry, problem_entry, form_of, stated_protocol, stated, entry_of_head, headed_entry, stated_problem, entries_from, input_of}
use Rattle.cp_report.specs.Misfits.{entries_misfits, symbol_misfits}
use Rattle.cp_report.specs.Heads.{forms_after_head, is_of_tree, is_label}
use Rattle.cp_report.specs.Labels.{label_of}
use Rattle.cp_report.specs.ReadBack.{counts, behind_outcome, status_entries_misfits, status_misfits, outcome_of, Section, Sections, with_form, sections_of, input_forms, labels_in_front, behind_labels, places_of, labels_misfits, if_whole, ending_misfits, tree_misfits, next_place, trees_misfits, fault_places, first_place, misfits, tree_of, tree_onto, trees_from, Report, report_of}
use Rattle.cp_report.proofs.Moved.{at_start, all_moved, IsMoved, IsMovedInside, both, unless_moved, place_moved, items_moved, head_moved, entries_moved, AreMoved, entries_misfits_moved, symbol_moved, number_moved}
use Rattle.cp_report.proofs.MovedItems.{map_moved, text_moved, name_in_front_moved}
use Rattle.cp_report.proofs.MovedSkeletons.{inside_moved}
use Rattle.cp_report.proofs.MovedNumbers.{tree_moved}
use Rattle.cp_report.proofs.MovedLabels.{headed_at_start, headed_moved, label_misfits_moved, label_moved}
use Rattle.cp_report.proofs.MovedFaults.{faults_at_start, two}
use Rattle.cp_report.proofs.MovedRoles.{protocol_faults_moved, protocol_of_moved}
use Rattle.cp_report.proofs.MovedProblems.{problem_faults_moved, problem_of_moved}

-- ---- the input

top_moved : (above : List Protocol) (at : Place) (h : TopHead) (fs : List Form) → top_faults above start h (all_moved fs) ≡ faults_at_start (top_faults above at h fs)
top_moved above at protocol_form fs = protocol_faults_moved (protocol_names above) at fs
top_moved above at problem_form fs = problem_faults_moved above at fs
top_moved above at free_form fs = refl
top_moved above at top_out_of_profile fs = refl
top_moved above at no_top fs = refl

headed_top_moved : (above : List Protocol) (at : Place) (o : Option Headed) → headed_top_faults above start (option_map headed_at_start o) ≡ faults_at_start (headed_top_faults above at o)
headed_top_moved above at None = refl
headed_top_moved above at (Some h) = top_moved above at (top_head h.head) h.items

onto_moved : (h : TopHead) (fs : List Form) (above : List Protocol) → protocols_onto h (all_moved fs) above ≡ protocols_onto h fs above
onto_moved protocol_form fs above = ap (λ p. p ∷ above) (protocol_of_moved fs)
onto_moved problem_form fs above = refl
onto_moved free_form fs above = refl
onto_moved top_out_of_profile fs above = refl
onto_moved no_top fs above = refl

headed_behind_moved : (o : Option Headed) (above : List Protocol) → protocols_behind (option_map headed_at_start o) above ≡ protocols_behind o above
headed_behind_moved None above = refl
headed_behind_moved (Some h) above = onto_moved (top_head h.head) h.items above

pub protocols_moved : (f : Form) (above : List Protocol) → protocols_behind (headed (unplaced f)) above ≡ protocols_behind (headed f) above
protocols_moved f above = ap (λ o. protocols_behind o above) (headed_moved f) ∙ headed_behind_moved (headed f) above

faults_from_moved : (above : List Protocol) (fs : List Form) → faults_from above (all_moved fs) ≡ faults_at_start (faults_from above fs)
faults_from_moved above [] = refl
faults_from_moved above (f ∷ fs) =
    two _ _ _ _
    (ap (λ p. headed_top_faults above p (headed (unplaced f))) (place_moved f) ∙ ap (headed_top_faults above start) (headed_moved f) ∙ headed_top_moved above (place_of f) (headed f))
    (ap (λ ps. faults_from ps (all_moved fs)) (protocols_moved f above) ∙ faults_from_moved (protocols_behind (headed f) above) fs)

-- The same entry, with its form at one place.
abbrev pub bare : Entry → Entry
bare (plain_entry f) = plain_entry (unplaced f)
bare (protocol_entry f p) = protocol_entry (unplaced f) p
bare (problem_entry f p) = problem_entry (unplaced f) p

pub bare_form : (e : Entry) → form_of (bare e) ≡ unplaced (form_of e)
bare_form (plain_entry f) = refl
bare_form (protocol_entry f p) = refl
bare_form (problem_entry f p) = refl

pub bare_protocol : (e : Entry) → stated_protocol (bare e) ≡ stated_protocol e
bare_protocol (plain_entry f) = refl
bare_protocol (protocol_entry f p) = refl
bare_protocol (problem_entry f p) = refl

pub bare_stated : (e : Entry) → stated (bare e) ≡ stated e
bare_stated (plain_entry f) = refl
bare_stated (protocol_entry f p) = refl
bare_stated (problem_entry f p) = refl

by_moved : (above : List Protocol) (h : TopHead) (fs : List Form) (f : Form) → entry_of_head above h (all_moved fs) (unplaced f) ≡ bare (entry_of_head above h fs f)
by_moved above protocol_form fs f = ap (protocol_entry (unplaced f)) (protocol_of_moved fs)
by_moved above problem_form fs f = ap (problem_entry (unplaced f)) (problem_of_moved above fs)
by_moved above free_form fs f = refl
by_moved above top_out_of_profile fs f = refl
by_moved above no_top fs f = refl

headed_entry_moved : (above : List Protocol) (o : Option Headed) (f : Form) → headed_entry above (option_map headed_at_start o) (unplaced f) ≡ bare (headed_entry above o f)
headed_entry_moved above None f = refl
headed_entry_moved above (Some h) f = by_moved above (top_head h.head) h.items f

entry_moved : (above : List Protocol) (f : Form) → headed_entry above (headed (unplaced f)) (unplaced f) ≡ bare (headed_entry above (headed f) f)
entry_moved above f = ap (λ o. headed_entry above o (unplaced f)) (headed_moved f) ∙ headed_entry_moved above (headed f) f

pub problem_moved : (above : List Protocol) (f : Form) → stated_problem above (unplaced f) ≡ stated_problem above f
problem_moved above f = ap stated (entry_moved above f) ∙ bare_stated (headed_entry above (headed f) f)

entries_from_moved : (above : List Protocol) (fs : List Form) → entries_from above (all_moved fs) ≡ map bare (entries_from above fs)
entries_from_moved above [] = refl
entries_from_moved above (f ∷ fs) =
    ap (λ e. e ∷ entries_from (protocols_behind (headed (unplaced f)) above) (all_moved fs)) (entry_moved above f)
    ∙ ap (λ ps. bare (headed_entry above (headed f) f) ∷ entries_from ps (all_moved fs)) (protocols_moved f above)
    ∙ ap (λ es. bare (headed_entry above (headed f) f) ∷ es) (entries_from_moved (protocols_behind (headed f) above) fs)

-- ---- sections

abbrev section_at_start : Section → Section
section_at_start s = record { form = unplaced s.form; behind = all_moved s.behind }

abbrev sections_at_start : Sections → Sections
sections_at_start s = record { front = all_moved s.front; sections = map section_at_start s.sections }

with_form_moved : (f : Form) (s : Sections) → with_form (unplaced f) (sections_at_start s) ≡ sections_at_start (with_form f s)
with_form_moved f s =
    ap (λ b. if b then record { front = unplaced f ∷ all_moved s.front; sections = map section_at_start s.sections }
    else record { front = []; sections = record { form = unplaced f; behind = all_moved s.front } ∷ map section_at_start s.sections }) (head_moved (codes "label" ∷ codes "status" ∷ []) f)
    ∙ by (is_of_tree f)
  where
    by : (b : Bool) → (if b then record { front = unplaced f ∷ all_moved s.front; sections = map section_at_start s.sections }
        else record { front = []; sections = record { form = unplaced f; behind = all_moved s.front } ∷ map section_at_start s.sections })
        ≡ sections_at_start (if b then record { front = f ∷ s.front; sections = s.sections } else record { front = []; sections = record { form = f; behind = s.front } ∷ s.sections })
    by true = refl
    by false = refl

sections_moved : (fs : List Form) → sections_of (all_moved fs) ≡ sections_at_start (sections_of fs)
sections_moved [] = refl
sections_moved (f ∷ fs) = ap (with_form (unplaced f)) (sections_moved fs) ∙ with_form_moved f (sections_of fs)

section_forms_moved : (ss : List Section) → items_of (input_forms (map section_at_start ss)) ≡ all_moved (items_of (input_forms ss))
section_forms_moved [] = refl
section_forms_moved (s ∷ ss) = ap (λ gs. unplaced s.form ∷ gs) (section_forms_moved ss)

-- ---- the status form

counts_moved : (labels : List Label) → AreMoved (counts labels)
counts_moved labels = (
  symbol_moved (λ t. same_text t (codes "labels")),
  (
    number_moved (λ m. m == length labels),
    (
      symbol_moved (λ t. same_text t (codes "expanded")),
      (
        number_moved (λ m. m == expanded_count labels),
        (symbol_moved (λ t. same_text t (codes "shapes")), (number_moved (λ m. m == length (shapes_of labels)), tt)),
      ),
    ),
  ),
)

outcome_kinds_moved : (labels : List Label) (w : List ℕ) → AreMoved (behind_outcome w (counts labels))
outcome_kinds_moved labels w = by (same_text w (codes "limit"))
  where
    by : (b : Bool) → AreMoved (if b then symbol_misfits (λ t. is_one_of t (codes "steps" ∷ codes "strands" ∷ [])) ∷ counts labels else counts labels)
    by true = (symbol_moved (λ t. is_one_of t (codes "steps" ∷ codes "strands" ∷ [])), counts_moved labels)
    by false = counts_moved labels

status_entries_moved : (labels : List Label) → IsMovedInside (status_entries_misfits labels)
status_entries_moved labels at [] = refl
status_entries_moved labels at (f ∷ fs) =
    unless_moved _ _ _ _ (symbol_moved (λ t. is_one_of t (codes "complete" ∷ codes "limit" ∷ [])) f)
    (ap (λ t. entries_misfits (behind_outcome t (counts labels)) start (all_moved fs)) (text_moved f)
    ∙ entries_misfits_moved (behind_outcome (text_of_symbol f) (counts labels)) at fs (outcome_kinds_moved labels (text_of_symbol f)))

status_moved : (labels : List Label) → IsMoved (status_misfits labels)
status_moved labels f = inside_moved (status_entries_misfits labels) (status_entries_moved labels) f

outcome_moved : (fs : List Form) → outcome_of (all_moved fs) ≡ outcome_of fs
outcome_moved [] = refl
outcome_moved (f ∷ fs) =
    ap (λ t. if same_text t (codes "complete") then complete else if same_text (name_in_front (all_moved fs)) (codes "steps") then at_step_limit else at_strand_limit) (text_moved f)
    ∙ ap (λ t. if same_text (text_of_symbol f) (codes "complete") then complete else if same_text t (codes "steps") then at_step_limit else at_strand_limit) (name_in_front_moved fs)

-- ---- trees

labels_front_moved : (fs : List Form) → labels_in_front (all_moved fs) ≡ all_moved (labels_in_front fs)
labels_front_moved [] = refl
labels_front_moved (f ∷ fs) =
    ap (λ b. if b then unplaced f ∷ labels_in_front (all_moved fs) else []) (head_moved (codes "label" ∷ []) f) ∙ by (is_label f) (labels_front_moved fs)
  where
    by : (b : Bool) → labels_in_front (all_moved fs) ≡ all_moved (labels_in_front fs) → (if b then unplaced f ∷ labels_in_front (all_moved fs) else []) ≡ all_moved (if b then f ∷ labels_in_front fs else [])
    by true rest = ap (λ gs. unplaced f ∷ gs) rest
    by false rest = refl

behind_moved : (fs : List Form) → behind_labels (all_moved fs) ≡ all_moved (behind_labels fs)
behind_moved [] = refl
behind_moved (f ∷ fs) =
    ap (λ b. if b then behind_labels (all_moved fs) else unplaced f ∷ all_moved fs) (head_moved (codes "label" ∷ []) f) ∙ by (is_label f) (behind_moved fs)
  where
    by : (b : Bool) → behind_labels (all_moved fs) ≡ all_moved (behind_labels fs) → (if b then behind_labels (all_moved fs) else unplaced f ∷ all_moved fs) ≡ all_moved (if b then behind_labels fs else f ∷ fs)
    by true rest = rest
    by false rest = refl

places_moved : (fs : List Form) → places_of (all_moved fs) ≡ at_start (places_of fs)
places_moved [] = refl
places_moved (f ∷ fs) = ap (λ p. p ∷ places_of (all_moved fs)) (place_moved f) ∙ ap (λ ps. start ∷ ps) (places_moved fs)

labels_misfits_moved : (p : Problem) (tree : Option (List Form)) (i : ℕ) (fs : List Form) → labels_misfits p (tree_moved tree) i (all_moved fs) ≡ at_start (labels_misfits p tree i fs)
labels_misfits_moved p tree i [] = refl
labels_misfits_moved p tree i (f ∷ fs) = both _ _ _ _ (label_misfits_moved p tree i f) (labels_misfits_moved p tree (suc i) fs)

whole_moved : (labels fs : List Form) → if_whole (all_moved labels) (all_moved fs) ≡ tree_moved (if_whole labels fs)
whole_moved labels [] = refl
whole_moved labels (f ∷ fs) = refl

ending_moved : (labels : List Label) (next : Place) (fs : List Form) → ending_misfits labels start (all_moved fs) ≡ at_start (ending_misfits labels next fs)
ending_moved labels next [] = refl
ending_moved labels next (f ∷ fs) = both _ _ _ _ (status_moved labels f) (places_moved fs)

labels_are_moved : (p : Problem) (behind : List Form) → map (label_of p) (labels_in_front (all_moved behind)) ≡ map (label_of p) (labels_in_front behind)
labels_are_moved p behind = ap (map (label_of p)) (labels_front_moved behind) ∙ map_moved (label_of p) (label_moved p) (labels_in_front behind)

tree_misfits_moved : (o : Option Problem) (next : Place) (behind : List Form) → tree_misfits o start (all_moved behind) ≡ at_start (tree_misfits o next behind)
tree_misfits_moved None next behind = places_moved behind
tree_misfits_moved (Some p) next behind =
    both _ _ _ _
    (ap (λ ls. labels_misfits p (if_whole ls (behind_labels (all_moved behind))) 0 ls) (labels_front_moved behind)
    ∙ ap (λ gs. labels_misfits p (if_whole (all_moved (labels_in_front behind)) gs) 0 (all_moved (labels_in_front behind))) (behind_moved behind)
    ∙ ap (λ t. labels_misfits p t 0 (all_moved (labels_in_front behind))) (whole_moved (labels_in_front behind) (behind_labels behind))
    ∙ labels_misfits_moved p (if_whole (labels_in_front behind) (behind_labels behind)) 0 (labels_in_front behind))
    (ap (λ ls. ending_misfits ls start (behind_labels (all_moved behind))) (labels_are_moved p behind)
    ∙ ap (ending_misfits (map (label_of p) (labels_in_front behind)) start) (behind_moved behind)
    ∙ ending_moved (map (label_of p) (labels_in_front behind)) next (behind_labels behind))

next_moved : (ss : List Section) → next_place start (map section_at_start ss) ≡ start
next_moved [] = refl
next_moved (s ∷ ss) = place_moved s.form

trees_misfits_moved : (first : Place) (above : List Protocol) (ss : List Section) → trees_misfits start above (map section_at_start ss) ≡ at_start (trees_misfits first above ss)
trees_misfits_moved first above [] = refl
trees_misfits_moved first above (s ∷ ss) =
    both _ _ _ _
    (ap (λ o. tree_misfits o (next_place start (map section_at_start ss)) (all_moved s.behind)) (problem_moved above s.form)
    ∙ ap (λ p. tree_misfits (stated_problem above s.form) p (all_moved s.behind)) (next_moved ss)
    ∙ tree_misfits_moved (stated_problem above s.form) (next_place first ss) s.behind)
    (ap (λ ps. trees_misfits start ps (map section_at_start ss)) (protocols_moved s.form above) ∙ trees_misfits_moved first (protocols_behind (headed s.form) above) ss)

-- ---- the whole

first_place_moved : (fs : List Form) → first_place (all_moved fs) ≡ start
first_place_moved [] = refl
first_place_moved (f ∷ fs) = place_moved f

fault_places_moved : (rs : List Refusal) → fault_places (faults_at_start rs) ≡ at_start (fault_places rs)
fault_places_moved [] = refl
fault_places_moved (r ∷ rs) = ap (λ ps. start ∷ ps) (fault_places_moved rs)

-- The misfits of these sections, where the first form stands here.
abbrev pub misfits_in : Place → Sections → List Place
misfits_in first s = fault_places (faults_of (input_forms s.sections)) ++ places_of s.front ++ trees_misfits first [] s.sections

-- Forms with one place everywhere have as many misfits,
pub misfits_moved : (fs : Forms) → misfits (all_unplaced fs) ≡ at_start (misfits fs)
misfits_moved fs =
    let s = sections_of (items_of fs) in
    ap (λ gs. misfits_in (first_place gs) (sections_of gs)) (items_moved fs)
    ∙ ap (λ p. misfits_in p (sections_of (all_moved (items_of fs)))) (first_place_moved (items_of fs))
    ∙ ap (misfits_in start) (sections_moved (items_of fs))
    ∙ both _ _ _ _ (both _ _ _ _
    (ap (λ gs. fault_places (faults_from [] gs)) (section_forms_moved s.sections) ∙ ap fault_places (faults_from_moved [] (items_of (input_forms s.sections)))
    ∙ fault_places_moved (faults_of (input_forms s.sections)))
    (places_moved s.front))
    (trees_misfits_moved (first_place (items_of fs)) [] s.sections)

tree_same : (p : Problem) (behind : List Form) → tree_of p (all_moved behind) ≡ tree_of p behind
tree_same p behind =
    let ls = labels_are_moved p behind in
    let o = ap outcome_in (behind_moved behind) ∙ by (behind_labels behind) in
    λ i. record { labels = ls i; outcome = o i }
  where
    outcome_in : List Form → Outcome
    outcome_in [] = complete
    outcome_in (f ∷ fs) = outcome_of (forms_after_head f)

    by : (fs : List Form) → outcome_in (all_moved fs) ≡ outcome_in fs
    by [] = refl
    by (f ∷ fs) = ap outcome_of (entries_moved f) ∙ outcome_moved (forms_after_head f)

onto_same : (o : Option Problem) (behind : List Form) (trees : List Tree) → tree_onto o (all_moved behind) trees ≡ tree_onto o behind trees
onto_same None behind trees = refl
onto_same (Some p) behind trees = ap (λ t. t ∷ trees) (tree_same p behind)

trees_same : (above : List Protocol) (ss : List Section) → trees_from above (map section_at_start ss) ≡ trees_from above ss
trees_same above [] = refl
trees_same above (s ∷ ss) =
    ap (λ o. tree_onto o (all_moved s.behind) (trees_from (protocols_behind (headed (unplaced s.form)) above) (map section_at_start ss))) (problem_moved above s.form)
    ∙ ap (λ ps. tree_onto (stated_problem above s.form) (all_moved s.behind) (trees_from ps (map section_at_start ss))) (protocols_moved s.form above)
    ∙ ap (tree_onto (stated_problem above s.form) (all_moved s.behind)) (trees_same (protocols_behind (headed s.form) above) ss)
    ∙ onto_same (stated_problem above s.form) s.behind (trees_from (protocols_behind (headed s.form) above) ss)

-- and are the same report, with its forms at one place.
pub report_moved : (fs : Forms) → report_of (all_unplaced fs) ≡ record { entries = map bare (report_of fs).entries; trees = (report_of fs).trees }
report_moved fs =
    let s = sections_of (items_of fs) in
    let e = ap (entries_from []) (section_forms_moved s.sections) ∙ entries_from_moved [] (items_of (input_forms s.sections)) in
    let t = trees_same [] s.sections in
    ap (λ gs. report_by (sections_of gs)) (items_moved fs) ∙ ap report_by (sections_moved (items_of fs)) ∙ (λ i. record { entries = e i; trees = t i })
  where
    report_by : Sections → Report
    report_by s = record { entries = input_of (input_forms s.sections); trees = trees_from [] s.sections }
