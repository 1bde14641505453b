use Rattle.std.proofs.Common.{◌≡◌, map, drop}
use Rattle.cp_sexpr.specs.View.{view}
use Rattle.cp_language.specs.Roles.{each_faults, item_faults, role_item_faults}
use Rattle.cp_scope.specs.FirstFault.{first_onto}
use Rattle.cp_roles.proofs.roles.role_items_faults.Given as goal

abbrev pub invariant-loop-item : goal.invariant-loop-item
invariant-loop-item l =
    first_onto l.first (each_faults (item_faults (role_item_faults l.scope.variables.now l.scope.trace.now)) (map view (drop l.item-index l.items)))
    ≡ first_onto l.initial.first (each_faults (item_faults (role_item_faults l.scope.variables.now l.scope.trace.now)) (map view l.items))
