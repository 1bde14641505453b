use Rattle.std.proofs.Common.{arith}
use Rattle.cp_collapse.proofs.Places.{count_past}
use Rattle.cp_collapse.proofs.block_places.lowest_before.Goals as goal

pub returns-else-end-lowest : goal.returns-else-end-lowest
returns-else-end-lowest c = count_past c.args.lowest.now c.args.end c.lowest_within-else-end-lowest.result (let h = c.if-end-lowest.false in omega (arith, h)) c.lowest_within-else-end-lowest.ensures.count
