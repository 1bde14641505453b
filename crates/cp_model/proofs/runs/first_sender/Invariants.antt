use Rattle.std.proofs.Common.{drop, map, Option}
use Rattle.cp_model.specs.declared.node.Node.{Node}
use Rattle.cp_model.specs.RunView.{trace_view}
use Rattle.cp_model.specs.Senders.{IsFirst, Sends}
use Rattle.cp_model.proofs.runs.first_sender.Given as goal

-- the first of the nodes that are left is the first of all
abbrev pub invariant-loop-node : goal.invariant-loop-node
invariant-loop-node l = (found : Option Node) → IsFirst (Sends (map trace_view l.strands) l.message) (drop l.node-index l.nodes) found → IsFirst (Sends (map trace_view l.strands) l.message) l.nodes found
