use Rattle.std.proofs.Common.{map, drop}
use Rattle.cp_escape.proofs.FirstClosed.{NoneClosed}
use Rattle.cp_escape.proofs.closed_encryptions.outermost_closed.Given as goal

abbrev pub invariant-loop-encryption : goal.invariant-loop-encryption
invariant-loop-encryption l = NoneClosed l.known (map (λ e. e.now) l.encryption-items) (map (λ e. e.now) (drop l.encryption-index l.encryption-items))
