use Rattle.std.proofs.Common.{◌≡◌, ◌++◌, map, drop}
use Rattle.cp_sexpr.specs.View.{view}
use Rattle.cp_roles.specs.Named.{shared_roles_view}
use Rattle.cp_report.specs.Heads.{items_with, strand_heads}
use Rattle.cp_report.specs.Skeletons.{strand_of}
use Rattle.cp_spelled.specs.Views.{scope_view}
use Rattle.cp_stated.proofs.stated_strands.strands_of.Given as goal

abbrev pub invariant-loop-item : goal.invariant-loop-item
invariant-loop-item l =
    l.strands.items ++ map (strand_of (shared_roles_view l.roles) (scope_view l.scope)) (items_with strand_heads (map view (drop l.item-index l.items)))
    ≡ map (strand_of (shared_roles_view l.roles) (scope_view l.scope)) (items_with strand_heads (map view l.items))
