use Rattle.std.proofs.Common.{◌≡◌, ◌++◌, [], map, drop}
use Rattle.cp_sexpr.specs.View.{view}
use Rattle.cp_language.specs.Input.{faults_from, entries_from}
use Rattle.cp_roles.specs.Above.{protocols_view, names_of_protocols, turned}
use Rattle.cp_scope.specs.FirstFault.{first_onto}
use Rattle.cp_load.specs.UncheckedProblems.{unchecked_entry_view}
use Rattle.cp_load.proofs.loader.read_forms.Given as goal

abbrev pub invariant-loop-form : goal.invariant-loop-form
invariant-loop-form l =
    (first_onto l.first (faults_from (turned (protocols_view l.protocols.items) []) (map view (drop l.form-index l.forms))) ≡ first_onto l.initial.first (faults_from [] (map view l.forms)))
    × (map unchecked_entry_view l.unchecked_entries.items ++ entries_from (turned (protocols_view l.protocols.items) []) (map view (drop l.form-index l.forms)) ≡ entries_from [] (map view l.forms))
    × (l.names ≡ names_of_protocols (protocols_view l.protocols.items))
