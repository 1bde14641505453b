use Rattle.std.proofs.Common.{arith}
use Rattle.cp_fingerprint.proofs.NoMore.{found_high}
use Rattle.cp_fingerprint.proofs.heights.is_as_high.Goals as goal

pub returns-then-other-one : goal.returns-then-other-one
returns-then-other-one c = let high = c.if-other-one.true in found_high c.args.one.now.name c.args.one.now.height c.args.other.now c.same.result (omega (arith, high)) c.same.ensures
