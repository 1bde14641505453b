use Rattle.cp_load.proofs.OwnParts.{number-taken}
use Rattle.cp_load.proofs.values.numbers_of.Goals as goal

pub loop-number-preserved : goal.loop-number-preserved
loop-number-preserved c =
    number-taken c.args.strands.now c.loop-number.number c.loop-number.numbers.items c.push.new.self.items _ c.loop-number-test.true c.in_ok-push.ensures.items c.loop-number.invariant
