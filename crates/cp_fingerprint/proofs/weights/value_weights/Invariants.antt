use Rattle.std.proofs.Common.{drop, map}
use Rattle.cp_fingerprint.specs.SharedValues.{slots_of}
use Rattle.cp_fingerprint.specs.Weights.{weight_beside}
use Rattle.cp_fingerprint.proofs.GrownHeights.{StillToMake}
use Rattle.cp_fingerprint.proofs.weights.value_weights.Given as goal

abbrev pub invariant-loop-own : goal.invariant-loop-own
invariant-loop-own l =
    let weight = weight_beside l.heard (slots_of l.weights) in
    StillToMake l.made (map weight (drop l.own-index l.sums)) (map weight l.sums)
