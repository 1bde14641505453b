use Rattle.std.proofs.Common.{◌≡◌, ◌++◌, map, drop}
use Rattle.cp_sexpr.specs.View.{view}
use Rattle.cp_language.specs.Problems.{pairs_in, pairs_faults}
use Rattle.cp_scope.specs.FirstFault.{first_onto}
use Rattle.cp_load.proofs.orders.pairs_faults.Given as goal

abbrev pub invariant-loop-form : goal.invariant-loop-form
invariant-loop-form l =
    (first_onto l.first (pairs_faults l.strands l.before.items (map view (drop l.form-index l.items)))
    ≡ first_onto l.initial.first (pairs_faults l.strands l.initial.before.items (map view l.items)))
    × (l.before.items ++ pairs_in (map view (drop l.form-index l.items)) ≡ l.initial.before.items ++ pairs_in (map view l.items))
