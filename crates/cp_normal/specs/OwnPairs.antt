-- Pairs that are looked up by their nodes among the skeleton's own, and pairs that its order has.
use Rattle.std.specs.Prelude.{◌≡◌, ◌==◌, ◌&&◌, ℕ, List, Bool, not}
use Rattle.std.specs.List.{list_any}
use Rattle.std.specs.HashSet.{HashSet, contains}
use Rattle.cp_lists.specs.Lists.{IsIn}
use Rattle.cp_model.specs.declared.node.OrderPair.{OrderPair}
use Rattle.cp_model.specs.Order.{ReachesAlong}

-- The strand and index of a pair's earlier node, and those of its later one.
abbrev pub PairKey : Type 0
PairKey = (ℕ × ℕ) × (ℕ × ℕ)

abbrev pub pair_key : OrderPair → PairKey
pair_key p = ((p.earlier.strand, p.earlier.index), (p.later.strand, p.later.index))

abbrev pub is_same_key : PairKey → PairKey → Bool
is_same_key a b = ((a.0.0 == b.0.0) && (a.0.1 == b.0.1)) && ((a.1.0 == b.1.0) && (a.1.1 == b.1.1))

-- A pair with this key is among these.
abbrev pub has_key : List OrderPair → PairKey → Bool
has_key ps q = list_any (λ p. is_same_key (pair_key p) q) ps

-- The set has the keys of these pairs, and no others.
abbrev pub AreKeysOf : {S : Type 0} → HashSet PairKey S → List OrderPair → Type 0
AreKeysOf keys ps = (q : PairKey) → contains is_same_key keys q ≡ has_key ps q

-- The pair is not among these.
abbrev pub is_other : List OrderPair → OrderPair → Bool
is_other own p = not (has_key own (pair_key p))

-- Of each of the pairs the first node reaches the second in the order.
abbrev pub AllLead : List OrderPair → List OrderPair → Type 0
AllLead order pairs = (p : OrderPair) → IsIn p pairs → ReachesAlong order p.earlier p.later
