use Rattle.std.proofs.Common.{◌≡◌, ◌++◌, map, drop}
use Rattle.cp_sexpr.specs.View.{view}
use Rattle.cp_language.specs.Roles.{atoms_in}
use Rattle.cp_scope.proofs.atoms.add_atoms.Given as goal

abbrev pub invariant-loop-item : goal.invariant-loop-item
invariant-loop-item l =
    l.atoms.items ++ atoms_in l.variables (map view (drop l.item-index l.items))
    ≡ l.initial.atoms.items ++ atoms_in l.variables (map view l.items)
