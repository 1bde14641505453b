use Rattle.std.proofs.Common.{◌≡◌, ◌++◌, length}
use Rattle.std.specs.Vec.Iter.{into_iter_items, into_iter_len}
use Rattle.cp_normal.specs.Leaves.{results_in}
use Rattle.cp_normal.proofs.rewriting.results.Given as goal

abbrev pub invariant-loop-candidate : goal.invariant-loop-candidate
invariant-loop-candidate g l = (l.results.items ++ results_in (into_iter_items l.candidate-iterator) ≡ results_in l.fn.candidates.items)
    × (into_iter_len l.candidate-iterator ≡ length (into_iter_items l.candidate-iterator))
