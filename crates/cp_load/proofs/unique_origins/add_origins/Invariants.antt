use Rattle.std.proofs.Common.{◌≡◌, drop}
use Rattle.cp_model.specs.Given.{uniques_onto}
use Rattle.cp_language.specs.Problems.{origins_from}
use Rattle.cp_load.proofs.unique_origins.add_origins.Given as goal

abbrev pub invariant-loop-number : goal.invariant-loop-number
invariant-loop-number l =
    uniques_onto l.uniques.items (origins_from l.number (drop l.number l.strands) l.value)
    ≡ uniques_onto l.initial.uniques.items (origins_from 0 l.strands l.value)
