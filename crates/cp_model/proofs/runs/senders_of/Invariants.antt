use Rattle.std.proofs.Common.{drop, map, List, Option, ◌++◌}
use Rattle.cp_model.specs.declared.node.Node.{Node}
use Rattle.cp_model.specs.RunView.{trace_view, row_view}
use Rattle.cp_model.specs.Senders.{ArePaired, AreSendersOf}
use Rattle.cp_model.proofs.runs.senders_of.Given as goal

-- with the rows of the strands that are left, all rows are there
abbrev pub invariant-loop-strand : goal.invariant-loop-strand
invariant-loop-strand l = (rest : List (List (Option Node))) → ArePaired (AreSendersOf (map trace_view l.strands) l.nodes) (map trace_view (drop l.strand-index l.strands)) rest → ArePaired (AreSendersOf (map trace_view l.strands) l.nodes) (map trace_view l.strands) (map row_view l.rows.items ++ rest)
