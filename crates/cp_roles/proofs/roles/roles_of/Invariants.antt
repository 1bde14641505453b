use Rattle.std.proofs.Common.{◌≡◌, ◌++◌, [], map, drop}
use Rattle.cp_sexpr.specs.View.{view}
use Rattle.cp_language.specs.Roles.{roles_faults, roles_in}
use Rattle.cp_scope.specs.FirstFault.{first_onto}
use Rattle.cp_roles.specs.Named.{role_names, shared_roles_view}
use Rattle.cp_roles.proofs.roles.roles_of.Given as goal

abbrev pub invariant-loop-item : goal.invariant-loop-item
invariant-loop-item l =
    (first_onto l.first (roles_faults (role_names l.roles.items) (map view (drop l.item-index l.items))) ≡ first_onto l.initial.first (roles_faults [] (map view l.items)))
    × (shared_roles_view l.roles.items ++ roles_in (map view (drop l.item-index l.items)) ≡ roles_in (map view l.items))
