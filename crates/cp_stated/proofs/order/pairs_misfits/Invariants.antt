use Rattle.std.proofs.Common.{◌≡◌, [], ◌++◌, map, drop}
use Rattle.cp_sexpr.specs.View.{view}
use Rattle.cp_language.specs.Problems.{pairs_in}
use Rattle.cp_report.specs.Skeletons.{pairs_misfits}
use Rattle.cp_spelled.specs.FirstMisfit.{first_onto}
use Rattle.cp_stated.proofs.order.pairs_misfits.Given as goal

abbrev pub invariant-loop-form : goal.invariant-loop-form
invariant-loop-form l =
    (first_onto l.first (pairs_misfits l.strands l.before.items (map view (drop l.form-index l.items)))
    ≡ first_onto l.initial.first (pairs_misfits l.strands [] (map view l.items)))
    × (l.before.items ++ pairs_in (map view (drop l.form-index l.items)) ≡ pairs_in (map view l.items))
