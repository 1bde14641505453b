use Rattle.std.proofs.Common.{◌≡◌, ◌++◌, [], map, drop}
use Rattle.cp_language.specs.Input.{faults_from, entries_from}
use Rattle.cp_roles.specs.Above.{protocols_view, names_of_protocols, turned}
use Rattle.cp_scope.specs.FirstFault as faults
use Rattle.cp_load.specs.UncheckedProblems.{unchecked_entry_view}
use Rattle.cp_report.specs.ReadBack.{trees_misfits}
use Rattle.cp_spelled.specs.FirstMisfit.{first_onto}
use Rattle.cp_readback.specs.Sections.{section_view}
use Rattle.cp_readback.specs.Reports.{forms_in}
use Rattle.cp_readback.proofs.report.stated_in.Given as goal

abbrev pub invariant-loop-place : goal.invariant-loop-place
invariant-loop-place l =
    (faults.first_onto l.faults (faults_from (turned (protocols_view l.protocols.items) []) (forms_in (map section_view (drop l.place l.sections)))) ≡ faults.first_onto l.initial.faults (faults_from [] (forms_in (map section_view l.sections))))
    × (first_onto l.first (trees_misfits l.start (turned (protocols_view l.protocols.items) []) (map section_view (drop l.place l.sections))) ≡ first_onto l.initial.first (trees_misfits l.start [] (map section_view l.sections)))
    × (map unchecked_entry_view l.unchecked_entries.items ++ entries_from (turned (protocols_view l.protocols.items) []) (forms_in (map section_view (drop l.place l.sections))) ≡ entries_from [] (forms_in (map section_view l.sections)))
    × (l.names ≡ names_of_protocols (protocols_view l.protocols.items))
