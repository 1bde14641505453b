-- The bounded search for what reaches a node along strands and pairs, as tests.
use Rattle.std.specs.Prelude.{◌==◌, ◌&&◌, ◌||◌, nat_le, ℕ, zero, suc, List, [], ◌∷◌, Bool, false}
use Rattle.cp_model.specs.declared.node.Node.{Node}
use Rattle.cp_model.specs.declared.node.OrderPair.{OrderPair}

-- y is x, or comes after it on its strand.
abbrev pub at_or_after : Node → Node → Bool
at_or_after x y = (x.strand == y.strand) && nat_le x.index y.index

-- One of the pairs passes the test.
abbrev pub any_pair : (OrderPair → Bool) → List OrderPair → Bool
any_pair test [] = false
any_pair test (p ∷ ps) = test p || any_pair test ps

-- y can be reached from x along strands and at most so many of the pairs.
abbrev pub reaches_within : ℕ → List OrderPair → Node → Node → Bool
reaches_within zero pairs x y = at_or_after x y
reaches_within (suc n) pairs x y = at_or_after x y || any_pair (λ p. at_or_after x p.earlier && reaches_within n pairs p.later y) pairs
