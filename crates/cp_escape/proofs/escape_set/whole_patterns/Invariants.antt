use Rattle.std.proofs.Common.{◌≡◌, ◌++◌, map, drop}
use Rattle.cp_escape.specs.Escape.{whole_pattern}
use Rattle.cp_escape.proofs.escape_set.whole_patterns.Given as goal

abbrev pub invariant-loop-encryption : goal.invariant-loop-encryption
invariant-loop-encryption l = (l.patterns.items ++ map whole_pattern (drop l.encryption-index l.encryptions)) ≡ map whole_pattern l.encryptions
