use Rattle.std.proofs.Common.{◌≡◌, ℕ, ◌<◌, take, get_or}
use Rattle.std.specs.Str.Parse.{digits_value}
use Rattle.cp_sexpr.specs.Written.{IsDigit}
use Rattle.cp_sexpr.proofs.builder.number_of.Given as goal

abbrev pub invariant-loop-byte : goal.invariant-loop-byte
invariant-loop-byte l = record {
  digits : (k : ℕ) → k < l.byte-index → IsDigit (get_or l.digits k 0);
  value : l.number ≡ digits_value 10 (take l.byte-index l.digits);
}
