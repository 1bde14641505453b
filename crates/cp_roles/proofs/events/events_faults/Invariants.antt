use Rattle.std.proofs.Common.{◌≡◌, map, drop}
use Rattle.cp_sexpr.specs.View.{view}
use Rattle.cp_language.specs.Roles.{event_faults, each_faults}
use Rattle.cp_scope.specs.FirstFault.{first_onto}
use Rattle.cp_roles.proofs.events.events_faults.Given as goal

abbrev pub invariant-loop-item : goal.invariant-loop-item
invariant-loop-item l =
    first_onto l.first (each_faults (event_faults l.variables) (map view (drop l.item-index l.items)))
    ≡ first_onto l.initial.first (each_faults (event_faults l.variables) (map view l.items))
