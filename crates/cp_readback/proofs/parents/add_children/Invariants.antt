use Rattle.std.proofs.Common.{◌≡◌, ◌||◌, ℕ, map, drop}
use Rattle.std.specs.HashSet.{contains}
use Rattle.cp_sexpr.specs.View.{view}
use Rattle.cp_report.specs.Labels.{numbers_in, stated_children}
use Rattle.cp_readback.specs.Families.{is_same_child, names_child}
use Rattle.cp_readback.proofs.parents.add_children.Given as goal

abbrev pub invariant-loop-item : goal.invariant-loop-item
invariant-loop-item l =
    (q : ℕ × ℕ) → (names_child l.label (numbers_in (map view (drop l.item-index l.item-items))) q || contains is_same_child l.children q)
    ≡ (names_child l.label (stated_children (view l.form)) q || contains is_same_child l.initial.children q)
