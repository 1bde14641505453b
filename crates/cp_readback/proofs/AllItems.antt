-- All items of a label form, one after another.
use Rattle.std.proofs.Common.{◌≡◌, ℕ, ◌&&◌, Bool, List, [], ◌∷◌, ◌++◌, ◌==◌, length, map, refl, sym, ap, ◌∙◌}
use Rattle.std.specs.Prelude.{Option, Some, None, codes, if◌then◌else◌}
use Rattle.cp_lists.proofs.Appended.{none_behind}
use Rattle.cp_base.specs.declared.place.Place.{Place}
use Rattle.cp_sexpr.specs.Syntax.{Form}
use Rattle.cp_sexpr.specs.View.{view}
use Rattle.cp_sexpr.specs.declared.form.Form as program
use Rattle.cp_language.specs.Faults.{place_of}
use Rattle.cp_model.specs.declared.variable.Declaration.{Declaration}
use Rattle.cp_language.specs.Problems.{is_known, Problem}
use Rattle.cp_report.specs.Misfits.{place_before, misfit_unless, unless_misfit, where_fitting, first_or, lacking, each_misfits, number_misfits}
use Rattle.cp_report.specs.Heads.{forms_after_head, entries_or_none, item_with, optional_misfits, mark_heads, up_to_strands, lines_of_label, order_misfits}
use Rattle.cp_report.specs.Skeletons.{declarations_of_label, vars_item_misfits, strands_misfits, around_strands_misfits}
use Rattle.cp_report.specs.Spelled.{pattern_misfits}
use Rattle.cp_report.specs.Labels.{missing_misfits, operation_misfits, about_strands_misfits, mark_misfits, has_children, items_misfits, behind_number, items_of_label, numbered_misfits, label_misfits}
use Rattle.cp_report.proofs.PartsFit.{items_fit}
use Rattle.cp_spelled.specs.FirstMisfit.{first_onto}
use Rattle.cp_scope.proofs.FirstOf.{first_then}
use Rattle.cp_items.specs.Parts.{is_fitting, operation_item_misfits}
use Rattle.cp_readback.specs.Parts.{mark_item_misfits, no_parent_item_misfits, parent_item_misfits, operation_of_item_misfits, escape_of_items_misfits, children_item_misfits}
use Rattle.cp_readback.specs.Items.{HasFitting}
use Rattle.cp_items.proofs.FitItems.{fitting-both, unless-found}
use Rattle.cp_items.proofs.InBlocks.{operation-counted}

mark-is : (tree : Option (List Form)) (items : List Form) (o : Option Form) → mark_item_misfits tree (has_children items) o ≡ mark_misfits tree items o
mark-is tree items None = refl
mark-is tree items (Some f) = refl

operation-is : (p : Problem) (o : Option Form) → optional_misfits (operation_item_misfits (length p.skeleton.strands)) o ≡ optional_misfits (operation_misfits p) o
operation-is p None = refl
operation-is p (Some f) = operation-counted p (place_of f) (forms_after_head f)

module _ (p : Problem) (tree : Option (List Form)) (i : ℕ) (at : Place) (items : List Form) where
  abbrev ordering : List Place
  ordering = order_misfits lines_of_label items

  abbrev front_ordering : List Place
  front_ordering = order_misfits lines_of_label (up_to_strands items)

  abbrev around : List Place
  around = around_strands_misfits p (first_or at ordering) items ++ about_strands_misfits p items

  abbrev to_order : List Place
  to_order = unless_misfit ordering (missing_misfits at items)

  abbrev to_root : List Place
  to_root = to_order ++ no_parent_item_misfits items

  abbrev to_parent : List Place
  to_parent = to_root ++ parent_item_misfits tree i items

  abbrev to_operation : List Place
  to_operation = to_parent ++ optional_misfits (operation_misfits p) (item_with (codes "by" ∷ []) items)

  abbrev to_variables : List Place
  to_variables = to_operation ++ vars_item_misfits items

  abbrev to_strands : List Place
  to_strands = to_variables ++ strands_misfits p items

  abbrev to_others : List Place
  to_others = to_strands ++ where_fitting (front_ordering ++ strands_misfits p items) around

  abbrev to_escape : List Place
  to_escape = to_others ++ escape_of_items_misfits items

  abbrev to_children : List Place
  to_children = to_escape ++ children_item_misfits tree i items

  pub all-items : (o ordered whole root parent operation variables strands others escape children mark : Option Place) (is_ordered is_front_ordered strands_fit : Bool) (count : ℕ)
      → is_ordered ≡ is_fitting ordering → is_front_ordered ≡ is_fitting front_ordering → ordered ≡ first_onto o ordering → whole ≡ first_onto ordered (if is_ordered then missing_misfits at items else [])
      → root ≡ first_onto whole (no_parent_item_misfits items) → parent ≡ first_onto root (parent_item_misfits tree i items)
      → count ≡ length p.skeleton.strands → operation ≡ first_onto parent (operation_of_item_misfits count items)
      → variables ≡ first_onto operation (vars_item_misfits items)
      → strands_fit ≡ is_fitting (strands_misfits p items) → strands ≡ first_onto variables (strands_misfits p items)
      → others ≡ first_onto strands (if is_front_ordered && strands_fit then around else [])
      → escape ≡ first_onto others (escape_of_items_misfits items) → children ≡ first_onto escape (children_item_misfits tree i items)
      → mark ≡ first_onto children (mark_item_misfits tree (has_children items) (item_with mark_heads items))
      → mark ≡ first_onto o (items_misfits p tree i at items)
  all-items o ordered whole root parent operation variables strands others escape children mark is_ordered is_front_ordered strands_fit count
      fits front_fits is_order is_whole is_root is_parent counted is_operation is_variables strands_do is_strands is_others is_escape is_children is_mark =
      let whole_is : whole ≡ first_onto o to_order =
      is_whole ∙ ap (λ b. first_onto ordered (if b then missing_misfits at items else [])) fits
      ∙ ap (λ q. first_onto q (if is_fitting ordering then missing_misfits at items else [])) is_order ∙ unless-found o ordering (missing_misfits at items) in
      let operation_is : operation ≡ first_onto parent (optional_misfits (operation_misfits p) (item_with (codes "by" ∷ []) items)) =
      is_operation ∙ ap (λ n. first_onto parent (operation_of_item_misfits n items)) counted ∙ ap (first_onto parent) (operation-is p (item_with (codes "by" ∷ []) items)) in
      let others_are : others ≡ first_onto strands (where_fitting (front_ordering ++ strands_misfits p items) around) =
      is_others ∙ ap (λ b. first_onto strands (if b && strands_fit then around else [])) front_fits
      ∙ ap (λ b. first_onto strands (if is_fitting front_ordering && b then around else [])) strands_do
      ∙ ap (first_onto strands) (sym (fitting-both front_ordering (strands_misfits p items) around)) in
      let root_is = first_then place_before o whole root to_order (no_parent_item_misfits items) whole_is is_root in
      let parent_is = first_then place_before o root parent to_root (parent_item_misfits tree i items) root_is is_parent in
      let by_operation = first_then place_before o parent operation to_parent (optional_misfits (operation_misfits p) (item_with (codes "by" ∷ []) items)) parent_is operation_is in
      let by_variables = first_then place_before o operation variables to_operation (vars_item_misfits items) by_operation is_variables in
      let by_strands = first_then place_before o variables strands to_variables (strands_misfits p items) by_variables is_strands in
      let by_others = first_then place_before o strands others to_strands (where_fitting (front_ordering ++ strands_misfits p items) around) by_strands others_are in
      let by_escape = first_then place_before o others escape to_others (escape_of_items_misfits items) by_others is_escape in
      let by_children = first_then place_before o escape children to_escape (children_item_misfits tree i items) by_escape is_children in
      first_then place_before o children mark to_children (mark_misfits tree items (item_with mark_heads items)) by_children
      (is_mark ∙ ap (first_onto children) (mark-is tree items (item_with mark_heads items)))

-- A label form with its number, or what stands in its place, and its items.
pub numbered-read : (p : Problem) (tree : Option (List Form)) (i : ℕ) (f : Form) (entries : List program.Form) (g : program.Form) (rest : List program.Form) (its : List Form) (at : Place) (o q r : Option Place)
    → entries ≡ g ∷ rest → map view entries ≡ forms_after_head f → at ≡ place_of f → its ≡ items_of_label f → q ≡ first_onto o (number_misfits (λ n. n == i) (view g)) → r ≡ first_onto q (items_misfits p tree i at its)
    → r ≡ first_onto o (label_misfits p tree i f)
numbered-read p tree i f entries g rest its at o q r split are stands items by_number by_items =
    let opened : forms_after_head f ≡ view g ∷ map view rest = sym are ∙ ap (map view) split in
    let number = number_misfits (λ n. n == i) (view g) in
    let behind = items_misfits p tree i (place_of f) (behind_number (view g ∷ map view rest)) in
    first_then place_before o q r number behind by_number
    (by_items ∙ ap (λ l. first_onto q (items_misfits p tree i l its)) stands ∙ ap (λ fs. first_onto q (items_misfits p tree i (place_of f) fs)) (items ∙ ap behind_number opened))
    ∙ sym (ap (λ es. first_onto o (numbered_misfits p tree i (place_of f) es)) opened)

-- ---- what fits where there is no misfit

patterns_fit : (ds : List Declaration) (known : Place → List Place) (o : Option Form)
    → optional_misfits (λ at fs. known at ++ lacking 1 at fs ++ each_misfits (pattern_misfits ds) fs) o ≡ [] → each_misfits (pattern_misfits ds) (entries_or_none o) ≡ []
patterns_fit ds known None e = refl
patterns_fit ds known (Some f) e = none_behind (known (place_of f) ++ lacking 1 (place_of f) (forms_after_head f)) (each_misfits (pattern_misfits ds) (forms_after_head f)) e

-- items without misfits have what a label is made of
pub has-fitting : (p : Problem) (tree : Option (List Form)) (i : ℕ) (at : Place) (items : List Form) → items_misfits p tree i at items ≡ [] → HasFitting p items
has-fitting p tree i at items e =
    let fit = items_fit p tree i at items e in
    record {
      strands = fit.strands;
      others = (first_or at (order_misfits lines_of_label items), fit.around);
      patterns = patterns_fit (declarations_of_label items) (λ q. misfit_unless (is_known (item_with (codes "test" ∷ []) items)) q) (item_with (codes "escape" ∷ []) items) fit.escape;
    }
