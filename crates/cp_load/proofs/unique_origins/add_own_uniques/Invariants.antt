use Rattle.std.proofs.Common.{◌≡◌, drop}
use Rattle.cp_model.specs.Given.{uniques_onto}
use Rattle.cp_language.specs.Problems.{own_uniques}
use Rattle.cp_load.proofs.unique_origins.add_own_uniques.Given as goal

abbrev pub invariant-loop-value : goal.invariant-loop-value
invariant-loop-value l =
    uniques_onto l.uniques.items (own_uniques l.strands (drop l.value-index l.values))
    ≡ uniques_onto l.initial.uniques.items (own_uniques l.strands l.values)
