use Rattle.std.proofs.Common.{◌≡◌, ◌++◌, [], drop, map}
use Rattle.cp_sexpr.specs.View.{view}
use Rattle.cp_language.specs.Names.{identifiers_in}
use Rattle.cp_report.specs.Skeletons.{vars_misfits, declaration_of}
use Rattle.cp_spelled.specs.FirstMisfit.{first_onto}
use Rattle.cp_spelled.proofs.variables.variables_of.Given as goal

abbrev pub invariant-loop-item : goal.invariant-loop-item
invariant-loop-item l =
    (first_onto l.first (vars_misfits (identifiers_in l.variables) (map view (drop l.item-index l.items))) ≡ first_onto l.initial.first (vars_misfits [] (map view l.items)))
    × (l.variables ++ map declaration_of (map view (drop l.item-index l.items)) ≡ map declaration_of (map view l.items))
