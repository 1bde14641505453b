use Rattle.std.proofs.Common.{◌≡◌, map, drop}
use Rattle.cp_sexpr.specs.View.{view}
use Rattle.cp_roles.specs.Named.{shared_roles_view}
use Rattle.cp_report.specs.Misfits.{each_misfits}
use Rattle.cp_report.specs.Heads.{items_with, strand_heads}
use Rattle.cp_report.specs.Skeletons.{strand_misfits}
use Rattle.cp_spelled.specs.FirstMisfit.{first_onto}
use Rattle.cp_spelled.specs.Views.{scope_view}
use Rattle.cp_stated.proofs.instances.strands_misfits.Given as goal

abbrev pub invariant-loop-item : goal.invariant-loop-item
invariant-loop-item l =
    first_onto l.first (each_misfits (strand_misfits (shared_roles_view l.roles) (scope_view l.scope)) (items_with strand_heads (map view (drop l.item-index l.items))))
    ≡ first_onto l.initial.first (each_misfits (strand_misfits (shared_roles_view l.roles) (scope_view l.scope)) (items_with strand_heads (map view l.items)))
