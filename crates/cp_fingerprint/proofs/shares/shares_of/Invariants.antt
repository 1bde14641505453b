use Rattle.std.proofs.Common.{◌≡◌, map, drop}
use Rattle.cp_fingerprint.specs.Weights.{placed_from, lightened}
use Rattle.cp_fingerprint.proofs.shares.shares_of.Given as goal

abbrev pub invariant-loop-place : goal.invariant-loop-place
invariant-loop-place l =
    let left = drop l.place-index l.places in
    (placed_from l.weights l.heavy left ≡ placed_from l.weights 0 l.places) × (placed_from l.weights l.light (map lightened left) ≡ placed_from l.weights 0 (map lightened l.places))
