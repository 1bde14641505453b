use Rattle.std.proofs.Common.{◌≡◌, map, drop}
use Rattle.cp_sexpr.specs.View.{view}
use Rattle.cp_language.specs.Roles.{each_faults}
use Rattle.cp_language.specs.Problems.{unique_faults}
use Rattle.cp_scope.specs.FirstFault.{first_onto}
use Rattle.cp_load.proofs.bodies.values_faults.Given as goal

abbrev pub invariant-loop-item : goal.invariant-loop-item
invariant-loop-item l =
    first_onto l.first (each_faults (unique_faults l.scope.strands.now l.scope.variables.now) (map view (drop l.item-index l.items)))
    ≡ first_onto l.initial.first (each_faults (unique_faults l.scope.strands.now l.scope.variables.now) (map view l.items))
