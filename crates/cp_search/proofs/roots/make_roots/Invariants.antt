use Rattle.std.proofs.Common.{◌≡◌, [], length}
use Rattle.std.specs.Vec.Iter.{into_iter_items, into_iter_len}
use Rattle.cp_tree.specs.Made.{made_of_root}
use Rattle.cp_search.specs.WaitingRecords.{AreKept}
use Rattle.cp_search.proofs.MadeInTurn.{AreMadeInTurn}
use Rattle.cp_search.proofs.roots.make_roots.Given as goal

abbrev pub invariant-loop-root : goal.invariant-loop-root
invariant-loop-root l = AreMadeInTurn made_of_root l.fn.roots.items (into_iter_items l.root-iterator) [] l.queue.made
    × (into_iter_len l.root-iterator ≡ length (into_iter_items l.root-iterator)) × AreKept 0 l.queue
