use Rattle.cp_normal.proofs.Greatest.{greatest}
use Rattle.cp_normal.proofs.RewritingRounds.{IsReached, rank_of}
use Rattle.cp_normal.proofs.rewriting.each_leaves.Given as goal

abbrev pub invariant-loop-candidates : goal.invariant-loop-candidates
invariant-loop-candidates g l = IsReached (g.R.Rewriting.becomes l.rewriting) l.fn.candidates.items l.candidates.items

abbrev pub decreases-loop-candidates : goal.decreases-loop-candidates
decreases-loop-candidates g l = greatest (rank_of (g.N.Ranking.rank)) l.candidates.items
