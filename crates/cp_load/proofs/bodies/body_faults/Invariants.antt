use Rattle.std.proofs.Common.{◌≡◌, [], ◌++◌, map, drop}
use Rattle.cp_sexpr.specs.View.{view}
use Rattle.cp_language.specs.Problems.{body_faults}
use Rattle.cp_scope.specs.FirstFault.{first_onto}
use Rattle.cp_roles.specs.Named.{shared_roles_view}
use Rattle.cp_load.specs.Stages.{stage_view, no_stage}
use Rattle.cp_load.specs.Acyclic.{pairs_stated}
use Rattle.cp_load.proofs.bodies.body_faults.Given as goal

abbrev pub invariant-loop-item : goal.invariant-loop-item
invariant-loop-item l =
    (first_onto l.first (body_faults (shared_roles_view l.scope.roles.now) l.scope.variables.now l.scope.strands.now
    l.before.items (stage_view l.stage) (map view (drop l.item-index l.items)))
    ≡ first_onto l.initial.first (body_faults (shared_roles_view l.scope.roles.now) l.scope.variables.now l.scope.strands.now
    [] no_stage (map view l.items)))
    × (l.before.items ++ pairs_stated (map view (drop l.item-index l.items)) ≡ pairs_stated (map view l.items))
