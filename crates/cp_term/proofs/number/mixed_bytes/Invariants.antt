use Rattle.std.proofs.Common.{◌≡◌, drop}
use Rattle.cp_term.specs.Numbers.{mixed_bytes}
use Rattle.cp_term.proofs.number.mixed_bytes.Given as goal

abbrev pub invariant-loop-byte : goal.invariant-loop-byte
invariant-loop-byte l = mixed_bytes l.so_far (drop l.byte-index l.bytes) ≡ mixed_bytes l.number l.bytes
