use Rattle.std.proofs.Common.{drop}
use Rattle.cp_fingerprint.proofs.ChainRounds.{RaisesBut}
use Rattle.cp_fingerprint.proofs.chain_table.raise_onward.Given as goal

abbrev pub invariant-loop-pair : goal.invariant-loop-pair
invariant-loop-pair l = RaisesBut l.starts l.pairs (drop l.pair-index l.pairs) l.fn.weights l.weights l.rose
