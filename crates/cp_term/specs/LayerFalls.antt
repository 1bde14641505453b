-- Each part of a node has a smaller size than the node.
use Rattle.std.specs.Prelude.{◌≤◌, max}
use Rattle.std.proofs.Common.{arith, ap}
use Rattle.cp_term.specs.Size.{term_size}
use Rattle.cp_term.specs.Layer.{term_of_node, IsWellSorted}
use Rattle.cp_term.specs.declared.term.Node.{Node}
use Rattle.cp_term.specs.declared.term.Node.TheVariants.{Tag, TextVariable, DatumVariable, NameVariable, SkeyVariable, AkeyVariable, Ltk, Pubk, Pair, Encryption}
use Rattle.cp_term.specs.declared.term.Term.TheDeep.{deep-Node}

pub node_falls : (n : Node) → IsWellSorted n → max (max (deep-Node n) 0) 0 ≤ term_size (term_of_node n)
node_falls (Tag text) h = omega arith
node_falls (TextVariable n) h = omega arith
node_falls (DatumVariable n) h = omega arith
node_falls (NameVariable n) h = omega arith
node_falls (SkeyVariable n) h = omega arith
node_falls (AkeyVariable flag n) h = omega arith
node_falls (Ltk a b) h = omega arith
node_falls (Pubk flag purpose a) h = omega arith
node_falls (Pair left right) h = omega arith
node_falls (Encryption body key) h = omega (arith, ap term_size h.is_key)
