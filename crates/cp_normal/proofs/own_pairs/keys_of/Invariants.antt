use Rattle.std.proofs.Common.{◌≡◌, ◌||◌, drop}
use Rattle.std.specs.HashSet.{contains}
use Rattle.cp_normal.specs.OwnPairs.{PairKey, is_same_key, has_key}
use Rattle.cp_normal.proofs.own_pairs.keys_of.Given as goal

-- with the pairs that are left, all keys are there
abbrev pub invariant-loop-pair : goal.invariant-loop-pair
invariant-loop-pair l =
    (q : PairKey) → (contains is_same_key l.keys q || has_key (drop l.pair-index l.pairs) q) ≡ has_key l.pairs q
