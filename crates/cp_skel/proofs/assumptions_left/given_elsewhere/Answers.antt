use Rattle.cp_skel.specs.Kinds.{stated_as}
use Rattle.cp_skel.proofs.GivenElsewhere.{next_passed, next_taken, none_elsewhere}
use Rattle.cp_skel.proofs.assumptions_left.given_elsewhere.Goals as goal

pub loop-number-init : goal.loop-number-init
loop-number-init c = none_elsewhere (stated_as c.args.kind) c.args.gone _ c.new-given.ensures.items

pub loop-number-preserved-then-number-gone : goal.loop-number-preserved-then-number-gone
loop-number-preserved-then-number-gone c =
    next_passed (stated_as c.args.kind) c.args.gone c.args.strands.now c.loop-number.number c.index-strands-number.result c.loop-number.given.items
    c.loop-number-test.true c.index-strands-number.is c.if-number-gone.true c.loop-number.invariant

pub loop-number-preserved : goal.loop-number-preserved
loop-number-preserved c =
    next_taken (stated_as c.args.kind) c.args.gone c.args.strands.now c.loop-number.number c.index-strands-number.result c.loop-number.given.items
    c.deref.result.now c.in_ok-more.more.items c.append.new.self.items
    c.loop-number-test.true c.index-strands-number.is c.if-number-gone.false c.deref.ensures.value c.in_ok-append.ensures.items c.in_ok-more.ensures c.loop-number.invariant
