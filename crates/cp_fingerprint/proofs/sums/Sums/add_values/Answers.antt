use Rattle.cp_fingerprint.proofs.AddedPlaces.{value_added, values_added}
use Rattle.cp_fingerprint.proofs.sums.Sums.add_values.Goals as goal

pub loop-number-preserved : goal.loop-number-preserved
loop-number-preserved c = λ r rest.
    c.loop-number.invariant r
    (value_added c.args.values.now c.loop-number.number c.index-values-number.result c.loop-number-test.true c.index-values-number.is c.place_weight.result c.place_weight.ensures
    c.loop-number.self c.add.new.self r c.in_ok-add.ensures rest)

pub returns : goal.returns
returns c = c.loop-number.invariant c.loop-number.self (values_added c.args.values.now c.loop-number.number c.loop-number-test.false c.loop-number.self)
