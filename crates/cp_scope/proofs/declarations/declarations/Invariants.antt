use Rattle.std.proofs.Common.{◌≡◌, ◌++◌, [], drop, map}
use Rattle.cp_sexpr.specs.View.{view}
use Rattle.cp_language.specs.Names.{identifiers_in}
use Rattle.cp_language.specs.Roles.{declarations_faults, declarations_in}
use Rattle.cp_scope.specs.FirstFault.{first_onto}
use Rattle.cp_scope.proofs.declarations.declarations.Given as goal

abbrev pub invariant-loop-item : goal.invariant-loop-item
invariant-loop-item l =
    (first_onto l.first (declarations_faults (identifiers_in l.variables) (map view (drop l.item-index l.items))) ≡ first_onto l.initial.first (declarations_faults [] (map view l.items)))
    × (l.variables ++ declarations_in (map view (drop l.item-index l.items)) ≡ declarations_in (map view l.items))
