use Rattle.std.proofs.Common.{◌≡◌, length}
use Rattle.std.specs.Vec.Iter.{into_iter_items, into_iter_len}
use Rattle.cp_tree.specs.Made.{made_of_child}
use Rattle.cp_search.specs.WaitingRecords.{KeepsRecords}
use Rattle.cp_search.proofs.MadeInTurn.{AreMadeInTurn}
use Rattle.cp_search.proofs.children.make_children.Given as goal

abbrev pub invariant-loop-child : goal.invariant-loop-child
invariant-loop-child l = AreMadeInTurn (made_of_child l.parent) l.fn.children.items (into_iter_items l.child-iterator) l.fn.queue.made l.queue.made
    × (into_iter_len l.child-iterator ≡ length (into_iter_items l.child-iterator)) × KeepsRecords l.fn.queue l.queue
