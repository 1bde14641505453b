use Rattle.cp_lists.proofs.Members.{none_left}
use Rattle.cp_general.proofs.FreePairs.{stands_there, stands_behind}
use Rattle.cp_general.proofs.dropped_pair.place_from.Goals as goal

pub loop-place-init : goal.loop-place-init
loop-place-init c = λ m. m

pub returns-then-eq-clause-some : goal.returns-then-eq-clause-some
returns-then-eq-clause-some c = stands_there c.args.pairs.now c.loop-place.place c.args.pair c.eq.result c.loop-place-test.true c.eq.ensures c.if-eq.true

pub loop-place-preserved : goal.loop-place-preserved
loop-place-preserved c = λ m. stands_behind c.args.pairs.now c.loop-place.place c.args.pair c.eq.result c.loop-place-test.true c.eq.ensures c.if-eq.false (c.loop-place.invariant m)

pub returns-clause-none : goal.returns-clause-none
returns-clause-none c = λ m. none_left c.args.pairs.now c.loop-place.place c.args.pair c.loop-place-test.false (c.loop-place.invariant m)
