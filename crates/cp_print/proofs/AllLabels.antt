-- What is written of a report: the report itself, where all labels are chosen.
use Rattle.std.proofs.Common.{◌≡◌, List, ℕ, ◌++◌, length, Result, Ok, Err, ap, ◌∙◌, subst}
use Rattle.std.specs.Prelude.{OnOk, OnErr}
use Rattle.cp_language.specs.Input.{Entry}
use Rattle.cp_language.specs.Report.{report_forms, report_text}
use Rattle.cp_language.specs.ShapesText.{chosen_report_forms, chosen_text, shapes_forms, shapes_text}
use Rattle.cp_language.proofs.ChosenLabels.{all_forms, all_text}
use Rattle.cp_model.specs.Tree.{Tree}
use Rattle.cp_sexpr.specs.Spelling.{AppendsFront}
use Rattle.cp_print.specs.Chosen.{chosen_by}
use Rattle.cp_print.specs.declared.report.Chosen.TheVariants.{All, Shapes}
use Rattle.cp_print.specs.WrittenForms.{ends_from, HasAppendedForms}

module _ {E : Type 0} (entries : List Entry) (trees : List Tree) (a ea b eb : List ℕ) where
  pub all_written_text : (r : Result (Unit {0}) E) → OnOk r (HasAppendedForms a ea b eb (chosen_report_forms (chosen_by All) entries trees)) → OnOk r (b ≡ a ++ report_text entries trees)
  all_written_text (Ok u) h = h.text_grew ∙ ap (λ t. a ++ t) (all_text entries trees)
  all_written_text (Err e) h = tt

  pub all_written_ends : (r : Result (Unit {0}) E) → OnOk r (HasAppendedForms a ea b eb (chosen_report_forms (chosen_by All) entries trees)) → OnOk r (eb ≡ ea ++ ends_from (length a) (report_forms entries trees))
  all_written_ends (Ok u) h = h.ends_grew ∙ ap (λ fs. ea ++ ends_from (length a) fs) (all_forms entries trees)
  all_written_ends (Err e) h = tt

  pub shapes_written_text : (r : Result (Unit {0}) E) → OnOk r (HasAppendedForms a ea b eb (chosen_report_forms (chosen_by Shapes) entries trees)) → OnOk r (b ≡ a ++ shapes_text entries trees)
  shapes_written_text (Ok u) h = h.text_grew
  shapes_written_text (Err e) h = tt

  pub shapes_written_ends : (r : Result (Unit {0}) E) → OnOk r (HasAppendedForms a ea b eb (chosen_report_forms (chosen_by Shapes) entries trees)) → OnOk r (eb ≡ ea ++ ends_from (length a) (shapes_forms entries trees))
  shapes_written_ends (Ok u) h = h.ends_grew
  shapes_written_ends (Err e) h = tt

pub all_front : {E : Type 0} (entries : List Entry) (trees : List Tree) (a b : List ℕ) (r : Result (Unit {0}) E) → OnErr r (AppendsFront a b (chosen_text (chosen_by All) entries trees)) → OnErr r (AppendsFront a b (report_text entries trees))
all_front entries trees a b (Ok u) h = tt
all_front entries trees a b (Err e) h = subst (AppendsFront a b) (all_text entries trees) h
