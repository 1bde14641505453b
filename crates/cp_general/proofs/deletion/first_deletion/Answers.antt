use Rattle.std.proofs.Common.{◌-◌, length, ap, le_of_eq}
use Rattle.cp_general.proofs.Stepped.{none_beyond, deletion_step, deletion_fewer, one_below, above_one}
use Rattle.cp_general.proofs.deletion.first_deletion.Goals as goal

pub loop-rest-init : goal.loop-rest-init
loop-rest-init c =
    let same = ap length c.strands-rest.ensures in
    (none_beyond c.args.k.now _ same, le_of_eq same)

pub try_deletion-requires-clause-there_is : goal.try_deletion-requires-clause-there_is
try_deletion-requires-clause-there_is c = one_below c.loop-rest.rest (length c.args.k.now.strands) c.loop-rest-test.true c.loop-rest.invariant.1

pub returns-in-Some-clause-some : goal.returns-in-Some-clause-some
returns-in-Some-clause-some c =
    deletion_step (c.loop-rest.rest - 1) c.args.k.now c.in-Some.left c.list_assumptions.new.self (rw c.in-Some.is at c.in_ok-left.ensures.some)
    (λ e l. c.loop-rest.invariant.0 e (above_one c.loop-rest.rest e c.loop-rest-test.true l)) c.in_ok-list_assumptions-in-Some.ensures.listed

pub returns-in-Some-clause-fewer : goal.returns-in-Some-clause-fewer
returns-in-Some-clause-fewer c =
    deletion_fewer (c.loop-rest.rest - 1) c.args.k.now c.in-Some.left c.list_assumptions.new.self (rw c.in-Some.is at c.in_ok-left.ensures.some)
    c.in_ok-list_assumptions-in-Some.ensures.listed
