use Rattle.std.proofs.Common.{map}
use Rattle.cp_fingerprint.proofs.ValuePlaces.{begins, value_passed, value_here, values_passed}
use Rattle.cp_fingerprint.proofs.values.place_among.Goals as goal

pub loop-number-init : goal.loop-number-init
loop-number-init c = begins c.args.value.now (map (λ v. v.value) c.args.values.now)

pub loop-number-preserved : goal.loop-number-preserved
loop-number-preserved c = value_passed c.args.value.now c.args.values.now c.loop-number.number c.index-values-number.result c.same.result c.loop-number-test.true c.index-values-number.is c.same.ensures c.if-same.false c.loop-number.invariant

pub returns-then-same : goal.returns-then-same
returns-then-same c = value_here c.args.value.now c.args.values.now c.loop-number.number c.index-values-number.result c.same.result c.loop-number-test.true c.index-values-number.is c.same.ensures c.if-same.true c.loop-number.invariant

pub returns : goal.returns
returns c = values_passed c.args.value.now c.args.values.now c.loop-number.number c.loop-number-test.false c.loop-number.invariant
