use Rattle.std.proofs.Common.{◌≡◌, [], map, take, drop}
use Rattle.cp_sexpr.specs.View.{view}
use Rattle.cp_language.specs.Problems.{maplets_faults}
use Rattle.cp_scope.specs.FirstFault.{first_onto}
use Rattle.cp_roles.specs.Mapped.{mapped_names}
use Rattle.cp_roles.proofs.faults.maplets_faults.Given as goal

abbrev pub invariant-loop-number : goal.invariant-loop-number
invariant-loop-number l =
    first_onto l.first (maplets_faults l.role l.height l.variables (mapped_names (take l.number (map view l.maplets))) (map view (drop l.number l.maplets)))
    ≡ first_onto l.initial.first (maplets_faults l.role l.height l.variables [] (map view l.maplets))
