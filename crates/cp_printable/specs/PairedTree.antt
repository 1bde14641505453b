-- An example: a tree that is the same as a true one, with a pair along a strand.
use Rattle.std.specs.Prelude.{[], ◌∷◌}
use Rattle.cp_model.specs.Bundle.{node_at}
use Rattle.cp_model.specs.declared.node.OrderPair.{OrderPair}
use Rattle.cp_model.specs.Tree.{Label, Tree}
use Rattle.cp_theory.specs.EncryptionExamples.{heard}
use Rattle.cp_tree.specs.Example.{heard_label, sent_label, heard_tree}

-- From the reception of the listener to its transmission, which comes after it anyway.
abbrev pub along_listener : OrderPair
along_listener = record { earlier = node_at 0 0; later = node_at 0 1 }

-- The label in which an encryption is heard, with this pair.
abbrev pub paired_label : Label
paired_label = record heard_label { skeleton = record heard { pairs = along_listener ∷ [] } }

abbrev pub paired_tree : Tree
paired_tree = record heard_tree { labels = paired_label ∷ sent_label ∷ [] }
