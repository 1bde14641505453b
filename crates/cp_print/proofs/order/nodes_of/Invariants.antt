use Rattle.std.proofs.Common.{◌≡◌, false, ◌++◌, drop}
use Rattle.cp_language.specs.Report.{nodes_from}
use Rattle.cp_print.proofs.order.nodes_of.Given as goal

abbrev pub invariant-loop-number : goal.invariant-loop-number
invariant-loop-number l = l.nodes.ran_out ≡ false → l.nodes.items ++ nodes_from l.number (drop l.number l.strands) ≡ nodes_from 0 l.strands
