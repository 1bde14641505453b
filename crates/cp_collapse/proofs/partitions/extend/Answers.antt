use Rattle.std.proofs.Common.{◌≡◌, ◌+◌, ◌-◌, ℕ, arith, subst}
use Rattle.cp_collapse.specs.Partials.{ArePartlyExtended}
use Rattle.cp_collapse.proofs.PartialLists.{one_put, none_put}
use Rattle.cp_collapse.proofs.partitions.extend.Goals as goal

pub loop-block-init : goal.loop-block-init
loop-block-init c = λ ps i at d so_far.
    one_put c.args.k.now c.args.number ps i c.args.partial.now.lowest.items at c.args.number c.args.next.now.items so_far c.in_ok-alone.field-0 _ d
    (c.in_ok-alone.ensures c.args.k.now c.requires.partition c.requires.exact) c.in_ok-push.ensures.items

pub loop-block-preserved-in-None : goal.loop-block-preserved-in-None
loop-block-preserved-in-None c = λ ps i at d so_far.
    let e : c.loop-block.block ≡ (c.loop-block.block - 1) + 1 = omega (arith, c.loop-block-test.true) in
    none_put c.args.k.now c.args.number ps i c.args.partial.now.lowest.items at (c.loop-block.block - 1) c.loop-block.next.items
    (subst (λ (m : ℕ). ArePartlyExtended c.args.k.now c.args.number ps i m c.loop-block.next.items) e (c.loop-block.invariant ps i at d so_far)) (rw c.in-None.is at c.in_ok-joined.ensures)

pub loop-block-preserved : goal.loop-block-preserved
loop-block-preserved c = λ ps i at d so_far.
    let e : c.loop-block.block ≡ (c.loop-block.block - 1) + 1 = omega (arith, c.loop-block-test.true) in
    one_put c.args.k.now c.args.number ps i c.args.partial.now.lowest.items at (c.loop-block.block - 1) c.loop-block.next.items
    (subst (λ (m : ℕ). ArePartlyExtended c.args.k.now c.args.number ps i m c.loop-block.next.items) e (c.loop-block.invariant ps i at d so_far)) c.in-Some.joined _ d
    (rw c.in-Some.is at c.in_ok-joined.ensures) c.in_ok-push-2.ensures.items

pub returns : goal.returns
returns c = λ ps i at d so_far.
    let e : c.loop-block.block ≡ 0 = omega (arith, c.loop-block-test.false) in
    subst (λ (m : ℕ). ArePartlyExtended c.args.k.now c.args.number ps i m c.loop-block.next.items) e (c.loop-block.invariant ps i at d so_far)
