use Rattle.std.proofs.Common.{map, drop}
use Rattle.cp_escape.proofs.StillClosed.{NoneStays}
use Rattle.cp_escape.proofs.widened_pattern.outermost_staying.Given as goal

abbrev pub invariant-loop-encryption : goal.invariant-loop-encryption
invariant-loop-encryption l = NoneStays l.k (map (λ e. e.now) l.encryption-items) (map (λ e. e.now) (drop l.encryption-index l.encryption-items))
