use Rattle.std.proofs.Common.{◌<◌, length, arith}
use Rattle.cp_derive.proofs.OpenedPieces.{begun, one_taken, all_taken, advanced}
use Rattle.cp_derive.proofs.opened_terms.open_more.Goals as goal

pub loop-term-init : goal.loop-term-init
loop-term-init c = λ sent h. begun _ _ _ _ h

pub loop-term-preserved : goal.loop-term-preserved
loop-term-preserved c =
    let within : c.loop-term.term-index < length c.args.more.now = omega arith in
    λ sent h. one_taken _ _ _ _ _ _ _ within c.term-item.is c.in_ok-take_apart.ensures (c.loop-term.invariant sent h)

pub loop-init : goal.loop-init
loop-init c = λ sent h. all_taken _ _ _ _ _ c.loop-term-test.false (c.loop-term.invariant sent h)

pub loop-preserved : goal.loop-preserved
loop-preserved c = λ sent h. advanced _ _ _ _ c.in_ok-unlock.ensures.advances (c.loop.invariant sent h)

pub returns : goal.returns
returns c = λ sent h. record {
  covered = advanced _ _ _ _ c.in_ok-unlock.ensures.advances (c.loop.invariant sent h);
  locked = c.in_ok-unlock.ensures.done c.if-branch.false;
}
