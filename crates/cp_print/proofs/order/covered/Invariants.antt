use Rattle.std.proofs.Common.{drop}
use Rattle.cp_print.specs.Order.{all_covered}
use Rattle.cp_print.proofs.GrownForms.{StillToMake}
use Rattle.cp_print.proofs.order.covered.Given as goal

abbrev pub invariant-loop-node : goal.invariant-loop-node
invariant-loop-node l = StillToMake l.pairs (all_covered l.covers l.nodes (drop l.node-index l.nodes)) (all_covered l.covers l.nodes l.nodes)
