use Rattle.std.proofs.Common.{◌≡◌, drop}
use Rattle.cp_expansion.specs.ChosenNode.{last_listening, chosen}
use Rattle.cp_expansion.proofs.chosen_test.chosen.Given as goal

abbrev pub invariant-loop-node : goal.invariant-loop-node
invariant-loop-node l = last_listening l.k l.chosen (drop l.node-index l.nodes) ≡ chosen l.k l.nodes
