-- The heaviest chains that lead to the nodes of role strands. No embedding makes their sum smaller.
use Rattle.std.specs.Prelude.{◌≤◌, ◌<◌, ◌+◌, ◌-◌, ◌^◌, ℕ, zero, suc, max, List, [], ◌∷◌, Option, Some, None, if◌then◌else◌}
use Rattle.cp_model.specs.Term.{Term}
use Rattle.cp_model.specs.Bundle.{node_at}
use Rattle.cp_model.specs.Same.{same_node}
use Rattle.cp_model.specs.Skeleton.{SkeletonStrand, instance, listener, term_event_at, Skeleton, Before}
use Rattle.cp_model.specs.declared.node.Node.{Node}
use Rattle.cp_model.specs.declared.node.OrderPair.{OrderPair}
use Rattle.cp_model.specs.declared.strand.Event.{Event}
use Rattle.cp_fingerprint.specs.SharedValues.{kept}

-- A chain of this weight leads to the node: each of its nodes is before the next, and the last is before the node. Each node weighs 1,
-- those of listeners too.
pub data Chain (k : Skeleton) : Node → ℕ → Type 0 where
  no_nodes : {y : Node} → Chain k y zero
  one_more : {x y : Node} {n : ℕ} → Chain k x n → Before k x y → Chain k y (suc n)

-- A chain of this weight leads to the node, and none is heavier whose weight the program can hold.
pub record IsHeaviest (k : Skeleton) (y : Node) (w : ℕ) : Type 0 where
  pub leads : Chain k y w
  pub none_heavier : (n : ℕ) → n < 2 ^ 64 → Chain k y n → n ≤ w

-- The greatest weight that the program can hold.
unfoldable pub greatest : ℕ
greatest = 2 ^ 64 - 1

-- ---- the heaviest chain to a node, by what is one step before it

-- One more than n, where there is an event.
abbrev pub one_behind : Option (Event Term) → ℕ → ℕ
one_behind None n = 0
one_behind (Some e) n = suc n

-- One more than the weight of the node before place i of strand s, where there is an event at that place.
abbrev pub along_strand : Skeleton → (Node → ℕ) → ℕ → ℕ → ℕ
along_strand k weight s zero = 0
along_strand k weight s (suc i) = one_behind (term_event_at k.strands (node_at s (suc i))) (weight (node_at s i))

-- One more than the greatest weight of an earlier node of pairs that end at y.
abbrev pub along_pairs : (Node → ℕ) → Node → List OrderPair → ℕ
along_pairs weight y [] = 0
along_pairs weight y (p ∷ ps) = max (if same_node p.later y then suc (weight p.earlier) else 0) (along_pairs weight y ps)

-- The weight of the heaviest chain of at most so many nodes that leads to a node.
abbrev pub heaviest_within : Skeleton → ℕ → Node → ℕ
heaviest_within k zero y = 0
heaviest_within k (suc m) y = max (along_strand k (λ x. heaviest_within k m x) y.strand y.index) (along_pairs (λ x. heaviest_within k m x) y k.pairs)

abbrev pub heaviest : Skeleton → Node → ℕ
heaviest k y = heaviest_within k greatest y

-- ---- the sum over the nodes of role strands

-- The weights of the heaviest chains that lead to the first so many nodes of strand s, added up.
abbrev pub chains_on : Skeleton → ℕ → ℕ → ℕ
chains_on k s zero = 0
chains_on k s (suc n) = chains_on k s n + heaviest k (node_at s n)

-- The same of all nodes of a role strand, the strand number s.
abbrev pub chains_to : Skeleton → ℕ → SkeletonStrand → ℕ
chains_to k s (instance role height terms) = chains_on k s height
chains_to k s (listener t) = 0

-- The same of strands, the first of which has number s.
abbrev pub chains_from : Skeleton → ℕ → List SkeletonStrand → ℕ
chains_from k s [] = 0
chains_from k s (x ∷ xs) = chains_to k s x + chains_from k (suc s) xs

-- The sum, over all nodes of role strands, of the weight of the heaviest chain that leads to the node.
abbrev pub chains_of : Skeleton → ℕ
chains_of k = kept (chains_from k 0 k.strands)
