-- Parts of label forms, with what they depend on apart.
use Rattle.std.specs.Prelude.{ℕ, List, [], ◌∷◌, ◌++◌, drop, Bool, not, codes, Option, Some, None}
use Rattle.cp_base.specs.declared.place.Place.{Place}
use Rattle.cp_model.specs.declared.tree.Mark.{Mark}
use Rattle.cp_sexpr.specs.Syntax.{Form}
use Rattle.cp_language.specs.Faults.{place_of}
use Rattle.cp_language.specs.Roles.{headed}
use Rattle.cp_model.specs.Skeleton.{SkeletonStrand}
use Rattle.cp_report.specs.Misfits.{misfit_unless, lacking}
use Rattle.cp_report.specs.Heads.{item_with, entries_under, optional_misfits}
use Rattle.cp_report.specs.Skeletons.{scope_of}
use Rattle.cp_report.specs.Labels.{mark_of, headed_mark_misfits, no_parent_misfits, parent_misfits, children_misfits, word_of_label, operation_place_misfits, unrealised_misfits, test_misfits, escape_misfits}
use Rattle.cp_items.specs.Parts.{operation_item_misfits}

-- ---- marks

-- A mark, where there are no children.
abbrev pub mark_item_misfits : Option (List Form) → Bool → Option Form → List Place
mark_item_misfits tree has_children None = []
mark_item_misfits tree has_children (Some f) = misfit_unless (not has_children) (place_of f) ++ headed_mark_misfits tree (place_of f) (headed f)

abbrev pub mark_of_item : Option Form → Option Mark
mark_of_item None = None
mark_of_item (Some f) = mark_of (headed f)

-- ---- single items, if they are there

abbrev pub no_parent_item_misfits : List Form → List Place
no_parent_item_misfits items = optional_misfits (no_parent_misfits items) (item_with (codes "parent" ∷ []) items)

abbrev pub parent_item_misfits : Option (List Form) → ℕ → List Form → List Place
parent_item_misfits tree i items = optional_misfits (parent_misfits tree i) (item_with (codes "parent" ∷ []) items)

abbrev pub operation_of_item_misfits : ℕ → List Form → List Place
operation_of_item_misfits strands items = optional_misfits (operation_item_misfits strands) (item_with (codes "by" ∷ []) items)

abbrev pub children_item_misfits : Option (List Form) → ℕ → List Form → List Place
children_item_misfits tree i items = optional_misfits (λ q fs. lacking 1 q fs ++ children_misfits tree i [] fs) (item_with (codes "children" ∷ []) items)

abbrev pub escape_of_items_misfits : List Form → List Place
escape_of_items_misfits items = optional_misfits (escape_misfits items) (item_with (codes "escape" ∷ []) items)

-- The operation, the unrealised nodes and the test, beside these strands.
abbrev pub about_these_misfits : List SkeletonStrand → List Form → List Place
about_these_misfits strands items =
    operation_place_misfits strands (word_of_label items) (drop 1 (entries_under (codes "by") items))
    ++ optional_misfits (unrealised_misfits strands) (item_with (codes "unrealised" ∷ []) items)
    ++ optional_misfits (test_misfits (scope_of items) strands) (item_with (codes "test" ∷ []) items)
