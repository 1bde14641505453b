use Rattle.std.proofs.Common.{◌≡◌, ◌≤◌, ◌++◌, List, take, reverse, length}
use Rattle.cp_model.specs.declared.node.Node.{Node}
use Rattle.cp_derive.specs.Picked.{Picks}
use Rattle.cp_derive.proofs.receptions.unrealised_by_strand.Given as goal

-- what is picked of the events that are left is picked of all in front of the nodes so far
abbrev pub invariant-loop-end : goal.invariant-loop-end
invariant-loop-end l = record {
  skeleton : l.known_before.skeleton ≡ l.fn.survey;
  within : l.end ≤ length l.occurrences;
  picks : (ns : List Node) → Picks l.fn.survey (take l.end l.occurrences) ns → Picks l.fn.survey l.occurrences (ns ++ reverse l.nodes.items);
}

abbrev pub decreases-loop-end : goal.decreases-loop-end
decreases-loop-end l = l.end
