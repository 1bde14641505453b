use Rattle.std.specs.Vec.Iter.{into_iter_items, into_iter_len}
use Rattle.cp_normal.proofs.RewritingRounds.{at_first, next_open, next_done, all_done, all_to_come, one_less}
use Rattle.cp_normal.proofs.rewriting.round.Goals as goal

pub loop-candidate-init : goal.loop-candidate-init
loop-candidate-init g c = (
  at_first (g.R.Rewriting.becomes c.args.rewriting.now) c.args.candidates.items (into_iter_items c.into_iter-candidate-iterator.result) c.in_ok-next.next.items c.into_iter-candidate-iterator.ensures.into_iter_gives.0 c.in_ok-next.ensures.items,
  all_to_come c.args.candidates.items (into_iter_items c.into_iter-candidate-iterator.result) c.args.candidates.len (into_iter_len c.into_iter-candidate-iterator.result) c.args.candidates.ok.0 c.into_iter-candidate-iterator.ensures.into_iter_gives.0 c.into_iter-candidate-iterator.ensures.into_iter_gives.1,
)

pub loop-candidate-preserved-in-Open : goal.loop-candidate-preserved-in-Open
loop-candidate-preserved-in-Open g c = (
  next_open (g.R.Rewriting.becomes c.args.rewriting.now) c.args.candidates.items (into_iter_items c.loop-candidate.candidate-iterator) (into_iter_items c.next.new.self) c.loop-candidate.next.items c.append.new.self.items
      c.in-Some.candidate c.loop-candidate.invariant.0 c.in-Some.ensures.steps.0 c.in-Open.item c.in_ok-step-in-Open.field-0.items c.in-Open.is c.in_ok-step-in-Open.ensures c.in_ok-append-in-Open.ensures.items,
  one_less (into_iter_items c.loop-candidate.candidate-iterator) (into_iter_items c.next.new.self) c.in-Some.candidate (into_iter_len c.loop-candidate.candidate-iterator) (into_iter_len c.next.new.self) c.loop-candidate.invariant.1 c.in-Some.ensures.steps.0 c.in-Some.ensures.steps.1,
)

pub loop-candidate-preserved : goal.loop-candidate-preserved
loop-candidate-preserved g c = (
  next_done (g.R.Rewriting.becomes c.args.rewriting.now) c.args.candidates.items (into_iter_items c.loop-candidate.candidate-iterator) (into_iter_items c.next.new.self) c.loop-candidate.next.items c.push.new.self.items
      c.in-Some.candidate c.loop-candidate.invariant.0 c.in-Some.ensures.steps.0 c.in-Done.result c.in-Done.is c.in_ok-push-in-Done.ensures.items,
  one_less (into_iter_items c.loop-candidate.candidate-iterator) (into_iter_items c.next.new.self) c.in-Some.candidate (into_iter_len c.loop-candidate.candidate-iterator) (into_iter_len c.next.new.self) c.loop-candidate.invariant.1 c.in-Some.ensures.steps.0 c.in-Some.ensures.steps.1,
)

pub returns : goal.returns
returns g c =
    all_done (g.R.Rewriting.becomes c.args.rewriting.now) c.args.candidates.items (into_iter_items c.loop-candidate.candidate-iterator) c.loop-candidate.next.items (into_iter_len c.loop-candidate.candidate-iterator) c.loop-candidate.invariant.0
    c.loop-candidate.invariant.1 c.in-None.ensures.steps.0
