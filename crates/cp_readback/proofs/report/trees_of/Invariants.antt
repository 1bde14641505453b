use Rattle.std.proofs.Common.{◌≡◌, ◌++◌, map, drop}
use Rattle.cp_readback.specs.Sections.{section_view}
use Rattle.cp_readback.specs.Reports.{all_unchecked_view, trees_by}
use Rattle.cp_readback.proofs.report.trees_of.Given as goal

abbrev pub invariant-loop-place : goal.invariant-loop-place
invariant-loop-place l =
    l.trees.items ++ trees_by (drop l.place (all_unchecked_view l.unchecked_entries)) (map section_view (drop l.place l.sections)) ≡ trees_by (all_unchecked_view l.unchecked_entries) (map section_view l.sections)
