use Rattle.std.proofs.Common.{◌≡◌, ◌≤◌, length}
use Rattle.cp_app.proofs.PutPieces.{PutUpTo}
use Rattle.cp_app.proofs.output.put_pieces.Given as goal

abbrev pub invariant-loop-end : goal.invariant-loop-end
invariant-loop-end g l = record {
  within : length l.rest ≤ length l.fn.text;
  never_falls : g.O.Sink.faults l.fn.out ≤ g.O.Sink.faults l.out;
  needless : g.O.Sink.needless l.out ≡ g.O.Sink.needless l.fn.out;
  put : PutUpTo l.fn.text l.rest (g.O.Sink.held l.fn.out) (g.O.Sink.held l.out);
}
