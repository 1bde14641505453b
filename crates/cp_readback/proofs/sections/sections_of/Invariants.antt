use Rattle.std.proofs.Common.{◌≡◌, ◌++◌, map, drop}
use Rattle.cp_sexpr.specs.View.{view}
use Rattle.cp_report.specs.ReadBack.{sections_of}
use Rattle.cp_readback.specs.Sections.{section_view}
use Rattle.cp_readback.proofs.sections.sections_of.Given as goal

abbrev pub invariant-loop-place : goal.invariant-loop-place
invariant-loop-place l = map section_view l.sections.items ++ (sections_of (map view (drop l.place l.forms))).sections ≡ (sections_of (map view l.forms)).sections
