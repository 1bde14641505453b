use Rattle.std.proofs.Common.{take}
use Rattle.cp_fingerprint.proofs.ChainRounds.{RaisesBut}
use Rattle.cp_fingerprint.proofs.chain_table.raise_back.Given as goal

abbrev pub invariant-loop-number : goal.invariant-loop-number
invariant-loop-number l = RaisesBut l.starts l.pairs (take l.number l.pairs) l.fn.weights l.weights l.rose
