use Rattle.std.proofs.Common.{length, ap}
use Rattle.cp_readback.proofs.labels.strand_count.Goals as goal

pub returns : goal.returns
returns c = ap length c.deref-strands.ensures.value
