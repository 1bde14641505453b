use Rattle.std.proofs.Common.{◌≡◌, ◌+◌, ◌≤◌, drop}
use Rattle.cp_sexpr.specs.Pieces.{place_after}
use Rattle.cp_sexpr.proofs.piece.place_after.Given as goal

abbrev pub invariant-loop-byte : goal.invariant-loop-byte
invariant-loop-byte l = record {
  line : l.at.line ≤ l.fn.place.line + l.byte-index;
  col : l.at.col ≤ l.fn.place.col + l.byte-index;
  rest : place_after l.at (drop l.byte-index l.bytes) ≡ place_after l.fn.place l.bytes;
}
