-- The counts of a tree by its label forms.
use Rattle.std.proofs.Common.{◌≡◌, ℕ, suc, ◌+◌, Bool, true, false, List, [], ◌∷◌, length, map, refl, sym, ap, ◌∙◌, arith}
use Rattle.std.specs.Prelude.{Option, Some, None, codes, if◌then◌else◌, count_by}
use Rattle.std.proofs.lemmas.List.Recursion.{is_count_by}
use Rattle.cp_base.specs.declared.place.Place.{Place}
use Rattle.cp_model.specs.Skeleton.{Skeleton}
use Rattle.cp_model.specs.Tree.{is_expanded, expanded_count, if_shape, shapes_of, Label}
use Rattle.cp_model.specs.declared.tree.Mark.{Mark}
use Rattle.cp_model.specs.declared.tree.Mark.TheVariants.{Shape as shape, Dead as dead, Seen as seen, InstanceOf as instance_of, LimitSteps as limit_steps, LimitStrands as limit_strands}
use Rattle.cp_sexpr.specs.Syntax.{Form}
use Rattle.cp_sexpr.specs.View.{view}
use Rattle.cp_sexpr.specs.declared.form.Form as program
use Rattle.cp_language.specs.Words.{is_one_of}
use Rattle.cp_language.specs.Roles.{text_of_symbol}
use Rattle.cp_language.specs.Problems.{is_known, Problem}
use Rattle.cp_language.specs.ShapesText.{is_shape_mark}
use Rattle.cp_report.specs.Misfits.{misfit, unless_misfit, entries_misfits, symbol_misfits}
use Rattle.cp_report.specs.Heads.{item_with, forms_after_head}
use Rattle.cp_report.specs.Spelled.{Scope}
use Rattle.cp_report.specs.Skeletons.{scope_of}
use Rattle.cp_language.specs.Faults.{place_of}
use Rattle.cp_report.specs.Labels.{items_of_label, test_of, mark_in, label_of}
use Rattle.cp_report.specs.ReadBack as report
use Rattle.cp_report.specs.ReadBack.{word_misfits, count_misfits, behind_outcome}
use Rattle.cp_readback.specs.Counts.{AreCountsOf, AreCountsIn, is_tested, is_shape_form, count_of, count_kinds, status_misfits_by_counts, status_form_misfits}
use Rattle.cp_readback.specs.declared.status.Counts.{Counts}
use Rattle.cp_items.specs.Parts.{is_fitting}
use Rattle.cp_items.proofs.FitItems.{symbol-fits, symbol-unknown}

expanded_by : (s : Scope) (o : Option Form) → is_expanded (test_of s o) ≡ (if is_known o then 1 else 0)
expanded_by s None = refl
expanded_by s (Some f) = refl

more_if : (b : Bool) (n : ℕ) → (if b then 1 else 0) + n ≡ (if b then suc n else n)
more_if true n = let e : 1 + n ≡ suc n = omega arith in e
more_if false n = let e : 0 + n ≡ n = omega arith in e

one_more : (b : Bool) (n : ℕ) → (if b then suc n else n) ≡ (if b then 1 + n else n)
one_more true n = let e : suc n ≡ 1 + n = omega arith in e
one_more false n = refl

-- how many forms of the program pass the test
pub counted : (test : Form → Bool) (fs : List program.Form) (n : ℕ) → n ≡ count_by (λ f. test (view f)) fs → n ≡ count_of test (map view fs)
counted test fs n e = e ∙ sym (is_count_by (λ gs. count_of test (map view gs)) (λ f. test (view f)) refl (λ f gs. one_more (test (view f)) (count_of test (map view gs))) fs)

module _ (p : Problem) where
  tested_are : (fs : List Form) → count_of is_tested fs ≡ expanded_count (map (label_of p) fs)
  tested_are [] = refl
  tested_are (f ∷ fs) =
      let items = items_of_label f in
      ap (λ n. if is_tested f then suc n else n) (tested_are fs) ∙ sym (more_if (is_tested f) (expanded_count (map (label_of p) fs)))
      ∙ sym (ap (λ n. n + expanded_count (map (label_of p) fs)) (expanded_by (scope_of items) (item_with (codes "test" ∷ []) items)))

  shape_by : (m : Option Mark) (k : Skeleton) (ks : List Skeleton) → length (if_shape m k ks) ≡ (if is_shape_mark m then suc (length ks) else length ks)
  shape_by None k ks = refl
  shape_by (Some shape) k ks = refl
  shape_by (Some dead) k ks = refl
  shape_by (Some (seen n)) k ks = refl
  shape_by (Some (instance_of n)) k ks = refl
  shape_by (Some limit_steps) k ks = refl
  shape_by (Some limit_strands) k ks = refl

  shapes_are : (fs : List Form) → count_of is_shape_form fs ≡ length (shapes_of (map (label_of p) fs))
  shapes_are [] = refl
  shapes_are (f ∷ fs) =
      ap (λ n. if is_shape_form f then suc n else n) (shapes_are fs) ∙ sym (shape_by (mark_in (items_of_label f)) (label_of p f).skeleton (shapes_of (map (label_of p) fs)))

  all_are : (fs : List Form) → length fs ≡ length (map (label_of p) fs)
  all_are [] = refl
  all_are (f ∷ fs) = ap suc (all_are fs)

  -- the counts of label forms are those of the labels that they denote
  pub counts_are : (fs : List Form) (c : Counts) → AreCountsIn fs c → AreCountsOf (map (label_of p) fs) c
  counts_are fs c a = record { labels_counted = a.labels_counted ∙ all_are fs; expanded = a.expanded ∙ tested_are fs; shapes = a.shapes ∙ shapes_are fs }

module _ (labels : List Label) (c : Counts) (a : AreCountsOf labels c) where
  kinds_are : count_kinds c ≡ report.counts labels
  kinds_are = λ i. word_misfits (codes "labels") ∷ count_misfits (a.labels_counted i) ∷ word_misfits (codes "expanded") ∷ count_misfits (a.expanded i) ∷ word_misfits (codes "shapes") ∷ count_misfits (a.shapes i) ∷ []

  entries_are : (at : Place) (fs : List Form) → status_misfits_by_counts c at fs ≡ report.status_entries_misfits labels at fs
  entries_are at [] = refl
  entries_are at (f ∷ fs) =
      ap (λ kinds. unless_misfit (symbol_misfits (λ t. is_one_of t (codes "complete" ∷ codes "limit" ∷ [])) f) (entries_misfits (behind_outcome (text_of_symbol f) kinds) at fs)) kinds_are

  -- a status form is judged by the counts of the labels before it
  pub status_is : (f : Form) → status_form_misfits c f ≡ report.status_misfits labels f
  status_is f = entries_are (place_of f) (forms_after_head f)

abbrev is_outcome : List ℕ → Bool
is_outcome t = is_one_of t (codes "complete" ∷ codes "limit" ∷ [])

module _ (c : Counts) (at : Place) (f : Form) (fs : List Form) where
  pub outcome-fits : is_fitting (symbol_misfits is_outcome f) ≡ true → entries_misfits (behind_outcome (text_of_symbol f) (count_kinds c)) at fs ≡ status_misfits_by_counts c at (f ∷ fs)
  outcome-fits e = symbol-fits is_outcome f (entries_misfits (behind_outcome (text_of_symbol f) (count_kinds c)) at fs) e

  pub outcome-unknown : is_fitting (symbol_misfits is_outcome f) ≡ false → misfit (place_of f) ≡ status_misfits_by_counts c at (f ∷ fs)
  outcome-unknown e = symbol-unknown is_outcome f (entries_misfits (behind_outcome (text_of_symbol f) (count_kinds c)) at fs) e
