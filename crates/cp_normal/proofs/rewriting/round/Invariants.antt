use Rattle.std.proofs.Common.{◌≡◌, length}
use Rattle.std.specs.Vec.Iter.{into_iter_items, into_iter_len}
use Rattle.cp_normal.proofs.RewritingRounds.{IsPartWay}
use Rattle.cp_normal.proofs.rewriting.round.Given as goal

abbrev pub invariant-loop-candidate : goal.invariant-loop-candidate
invariant-loop-candidate g l = IsPartWay (g.R.Rewriting.becomes l.rewriting) l.fn.candidates.items (into_iter_items l.candidate-iterator) l.next.items
    × (into_iter_len l.candidate-iterator ≡ length (into_iter_items l.candidate-iterator))
