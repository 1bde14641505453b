-- The counts of a tree, and status forms with them.
use Rattle.std.specs.Prelude.{◌≡◌, ℕ, suc, List, [], ◌∷◌, ◌++◌, length, Bool, codes, if◌then◌else◌}
use Rattle.cp_base.specs.declared.place.Place.{Place}
use Rattle.cp_model.specs.Tree.{Label, expanded_count, shapes_of}
use Rattle.cp_model.specs.declared.tree.Outcome.{Outcome}
use Rattle.cp_model.specs.declared.tree.Outcome.TheVariants.{Complete as complete}
use Rattle.cp_sexpr.specs.Syntax.{Form}
use Rattle.cp_language.specs.Words.{is_one_of}
use Rattle.cp_language.specs.Faults.{place_of}
use Rattle.cp_language.specs.Roles.{text_of_symbol}
use Rattle.cp_language.specs.Problems.{is_known}
use Rattle.cp_language.specs.ShapesText.{is_shape_mark}
use Rattle.cp_report.specs.Misfits.{misfit, unless_misfit, entries_misfits, symbol_misfits}
use Rattle.cp_report.specs.Heads.{forms_after_head, item_with}
use Rattle.cp_report.specs.Labels.{items_of_label, mark_in}
use Rattle.cp_report.specs.ReadBack.{word_misfits, count_misfits, behind_outcome, outcome_of, places_of}
use Rattle.cp_readback.specs.declared.status.Counts.{Counts}

-- The counts are those of these labels.
pub record AreCountsOf (labels : List Label) (c : Counts) : Type 0 where
  pub labels_counted : c.labels ≡ length labels
  pub expanded : c.expanded ≡ expanded_count labels
  pub shapes : c.shapes ≡ length (shapes_of labels)

-- The label form has a test; or it has the mark of a shape.
abbrev pub is_tested : Form → Bool
is_tested f = is_known (item_with (codes "test" ∷ []) (items_of_label f))

abbrev pub is_shape_form : Form → Bool
is_shape_form f = is_shape_mark (mark_in (items_of_label f))

-- How many of the forms pass the test.
abbrev pub count_of : (Form → Bool) → List Form → ℕ
count_of test [] = 0
count_of test (f ∷ fs) = if test f then suc (count_of test fs) else count_of test fs

-- The counts are those of these label forms.
pub record AreCountsIn (labels : List Form) (c : Counts) : Type 0 where
  pub labels_counted : c.labels ≡ length labels
  pub expanded : c.expanded ≡ count_of is_tested labels
  pub shapes : c.shapes ≡ count_of is_shape_form labels

-- The counts, each behind its word.
abbrev pub count_kinds : Counts → List (Form → List Place)
count_kinds c =
    word_misfits (codes "labels") ∷ count_misfits c.labels
    ∷ word_misfits (codes "expanded") ∷ count_misfits c.expanded
    ∷ word_misfits (codes "shapes") ∷ count_misfits c.shapes ∷ []

abbrev pub status_misfits_by_counts : Counts → Place → List Form → List Place
status_misfits_by_counts c at [] = misfit at
status_misfits_by_counts c at (f ∷ fs) =
    unless_misfit (symbol_misfits (λ t. is_one_of t (codes "complete" ∷ codes "limit" ∷ [])) f) (entries_misfits (behind_outcome (text_of_symbol f) (count_kinds c)) at fs)

-- A status form behind labels with these counts.
abbrev pub status_form_misfits : Counts → Form → List Place
status_form_misfits c f = status_misfits_by_counts c (place_of f) (forms_after_head f)

abbrev pub outcome_in : List Form → Outcome
outcome_in [] = complete
outcome_in (f ∷ fs) = outcome_of (forms_after_head f)

-- One status form has to stand behind labels with these counts, before the next form of the input, which stands here.
abbrev pub ending_form_misfits : Counts → Place → List Form → List Place
ending_form_misfits c next [] = misfit next
ending_form_misfits c next (f ∷ fs) = status_form_misfits c f ++ places_of fs
