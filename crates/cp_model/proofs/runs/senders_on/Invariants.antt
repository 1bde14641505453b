use Rattle.std.proofs.Common.{drop, map, List, Option, ◌++◌}
use Rattle.cp_model.specs.declared.node.Node.{Node}
use Rattle.cp_model.specs.RunView.{trace_view}
use Rattle.cp_model.specs.Senders.{AreSendersOf}
use Rattle.cp_model.proofs.runs.senders_on.Given as goal

-- with what the events that are left are linked to, the row is whole
abbrev pub invariant-loop-event : goal.invariant-loop-event
invariant-loop-event l = (rest : List (Option Node)) → AreSendersOf (map trace_view l.strands) l.nodes ((drop l.event-index l.events)) rest → AreSendersOf (map trace_view l.strands) l.nodes l.events (l.row.items ++ rest)
