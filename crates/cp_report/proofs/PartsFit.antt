-- The items of a label form without misfits: no part of what is asked of them has one.
use Rattle.std.proofs.Common.{◌≡◌, ℕ, List, [], ◌∷◌, ◌++◌}
use Rattle.std.specs.Prelude.{Option, codes}
use Rattle.cp_base.specs.declared.place.Place.{Place}
use Rattle.cp_lists.proofs.Appended.{none_in_both, none_and}
use Rattle.cp_sexpr.specs.Syntax.{Form}
use Rattle.cp_language.specs.Problems.{Problem}
use Rattle.cp_report.specs.Misfits.{first_or, lacking}
use Rattle.cp_report.specs.Heads.{item_with, optional_misfits, mark_heads, up_to_strands, lines_of_label, order_misfits}
use Rattle.cp_report.specs.Skeletons.{vars_item_misfits, strands_misfits, around_strands_misfits}
use Rattle.cp_report.specs.Labels.{missing_misfits, no_parent_misfits, parent_misfits, operation_misfits, about_strands_misfits, escape_misfits, children_misfits, mark_misfits, items_misfits}
use Rattle.cp_report.proofs.LabelItems.{front_in_order}
use Rattle.cp_report.proofs.NoMisfits.{none_of_unless, none_where_fitting}

-- Each part of what is asked of the items has no misfit.
pub record ItemsFit (p : Problem) (tree : Option (List Form)) (i : ℕ) (at : Place) (items : List Form) : Type 0 where
  pub missing : missing_misfits at items ≡ []
  pub no_parent : optional_misfits (no_parent_misfits items) (item_with (codes "parent" ∷ []) items) ≡ []
  pub parent : optional_misfits (parent_misfits tree i) (item_with (codes "parent" ∷ []) items) ≡ []
  pub operation : optional_misfits (operation_misfits p) (item_with (codes "by" ∷ []) items) ≡ []
  pub variables : vars_item_misfits items ≡ []
  pub strands : strands_misfits p items ≡ []
  pub around : around_strands_misfits p (first_or at (order_misfits lines_of_label items)) items ≡ []
  pub about : about_strands_misfits p items ≡ []
  pub escape : optional_misfits (escape_misfits items) (item_with (codes "escape" ∷ []) items) ≡ []
  pub children : optional_misfits (λ q fs. lacking 1 q fs ++ children_misfits tree i [] fs) (item_with (codes "children" ∷ []) items) ≡ []
  pub mark : mark_misfits tree items (item_with mark_heads items) ≡ []

pub items_fit : (p : Problem) (tree : Option (List Form)) (i : ℕ) (at : Place) (items : List Form) → items_misfits p tree i at items ≡ [] → ItemsFit p tree i at items
items_fit p tree i at items e =
    let to_children = none_in_both _ (mark_misfits tree items (item_with mark_heads items)) e in
    let to_escape = none_in_both _ (optional_misfits (λ q fs. lacking 1 q fs ++ children_misfits tree i [] fs) (item_with (codes "children" ∷ []) items)) to_children.0 in
    let to_around = none_in_both _ (optional_misfits (escape_misfits items) (item_with (codes "escape" ∷ []) items)) to_escape.0 in
    let to_strands = none_in_both _ _ to_around.0 in
    let to_variables = none_in_both _ (strands_misfits p items) to_strands.0 in
    let to_operation = none_in_both _ (vars_item_misfits items) to_variables.0 in
    let to_parent = none_in_both _ (optional_misfits (operation_misfits p) (item_with (codes "by" ∷ []) items)) to_operation.0 in
    let to_root = none_in_both _ (optional_misfits (parent_misfits tree i) (item_with (codes "parent" ∷ []) items)) to_parent.0 in
    let to_order = none_in_both _ (optional_misfits (no_parent_misfits items) (item_with (codes "parent" ∷ []) items)) to_root.0 in
    let ordered = none_of_unless (order_misfits lines_of_label items) (missing_misfits at items) to_order.0 in
    let front : order_misfits lines_of_label (up_to_strands items) ++ strands_misfits p items ≡ [] =
    none_and _ _ (front_in_order lines_of_label items ordered.0) to_variables.1 in
    let behind = none_in_both (around_strands_misfits p (first_or at (order_misfits lines_of_label items)) items) (about_strands_misfits p items) (none_where_fitting _ _ to_strands.1 front) in
    record {
      missing = ordered.1;
      no_parent = to_order.1;
      parent = to_root.1;
      operation = to_parent.1;
      variables = to_operation.1;
      strands = to_variables.1;
      around = behind.0;
      about = behind.1;
      escape = to_around.1;
      children = to_escape.1;
      mark = to_children.1;
    }
