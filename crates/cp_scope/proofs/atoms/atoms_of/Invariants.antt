use Rattle.std.proofs.Common.{◌≡◌, ◌++◌, map, drop}
use Rattle.cp_sexpr.specs.View.{view}
use Rattle.cp_language.specs.Roles.{atoms_in, forms_under}
use Rattle.cp_scope.specs.Kinds.{is_of_kind}
use Rattle.cp_scope.proofs.atoms.atoms_of.Given as goal

abbrev pub invariant-loop-item : goal.invariant-loop-item
invariant-loop-item l =
    l.atoms.items ++ atoms_in l.variables (forms_under (is_of_kind l.kind) (map view (drop l.item-index l.items)))
    ≡ atoms_in l.variables (forms_under (is_of_kind l.kind) (map view l.items))
