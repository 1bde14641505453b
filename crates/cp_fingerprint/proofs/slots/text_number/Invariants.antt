use Rattle.std.proofs.Common.{◌≡◌, drop}
use Rattle.cp_fingerprint.specs.SharedValues.{text_number}
use Rattle.cp_fingerprint.proofs.slots.text_number.Given as goal

abbrev pub invariant-loop-byte : goal.invariant-loop-byte
invariant-loop-byte l = text_number l.number (drop l.byte-index l.bytes) ≡ text_number 1 l.bytes
