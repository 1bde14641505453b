use Rattle.std.proofs.Common.{List, subst}
use Rattle.std.proofs.lemmas.Result.{IfOk-weaker}
use Rattle.cp_normal.specs.Leaves.{HasOpen}
use Rattle.cp_normal.specs.declared.rewriting.Candidate.{Candidate}
use Rattle.cp_normal.proofs.RewritingRounds.{round_falls, reached_at_first, reached_next, reached_at_last}
use Rattle.cp_normal.proofs.rewriting.each_leaves.Goals as goal

pub loop-candidates-init : goal.loop-candidates-init
loop-candidates-init g c = reached_at_first (g.R.Rewriting.becomes c.args.rewriting.now) c.args.candidates.items

pub loop-candidates-preserved : goal.loop-candidates-preserved
loop-candidates-preserved g c = reached_next (g.R.Rewriting.becomes c.args.rewriting.now) c.args.candidates.items _ _ c.loop-candidates.invariant c.in_ok-candidates.ensures

pub loop-candidates-smaller : goal.loop-candidates-smaller
loop-candidates-smaller g c =
    round_falls (g.R.Rewriting.becomes c.args.rewriting.now) g.N.Ranking.rank c.requires c.loop-candidates.candidates.items c.in_ok-candidates.candidates.items c.in_ok-candidates.ensures
    (subst (λ (cs : List (Candidate g.row.R-Item.Denot g.row.R-Done.Denot)). HasOpen cs) c.deref.ensures.value (c.some_is_open.ensures.0 c.loop-candidates-test.true))

pub returns : goal.returns
returns g c =
    IfOk-weaker c.results.result _ _
    (λ leaves e. reached_at_last (g.R.Rewriting.becomes c.args.rewriting.now) c.args.candidates.items c.loop-candidates.candidates.items _ leaves.items _ c.loop-candidates.invariant c.loop-candidates-test.false c.some_is_open.ensures.1 c.deref.ensures.value e)
    c.results.ensures
