use Rattle.std.proofs.Common.{◌≡◌, ◌||◌, ◌++◌, ℕ, map, drop}
use Rattle.std.specs.HashSet.{contains}
use Rattle.cp_sexpr.specs.View.{view}
use Rattle.cp_report.specs.Labels.{stated_parent}
use Rattle.cp_readback.specs.Families.{is_same_child, child_from}
use Rattle.cp_readback.proofs.parents.family_of.Given as goal

abbrev pub invariant-loop-number : goal.invariant-loop-number
invariant-loop-number l =
    (l.parents.items ++ map stated_parent (map view (drop l.number l.labels)) ≡ map stated_parent (map view l.labels))
    × ((q : ℕ × ℕ) → (child_from l.number (map view (drop l.number l.labels)) q || contains is_same_child l.children q) ≡ child_from 0 (map view l.labels) q)
