use Rattle.std.proofs.Common.{arith}
use Rattle.cp_names.proofs.LaterNames.{all_named}
use Rattle.cp_names.proofs.names.label_names.Goals as goal

pub returns : goal.returns
returns c = all_named c.args.of_problem.now c.args.flags.now c.args.variables.now c.loop-number.names.taken c.loop-number.number c.loop-number.names.names.items (omega (arith, c.loop-number-test.false)) c.loop-number.invariant
