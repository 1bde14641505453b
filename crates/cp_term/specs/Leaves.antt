-- Nodes by their parts.
use Rattle.cp_term.specs.declared.term.Node.{Node}
use Rattle.cp_term.specs.declared.term.Node.TheVariants.{Pair, Encryption}

-- The node has no parts.
abbrev pub IsAtomicNode : Node → Type 0
IsAtomicNode (Pair left right) = ⊥
IsAtomicNode (Encryption body key) = ⊥
IsAtomicNode _ = Unit {0}
