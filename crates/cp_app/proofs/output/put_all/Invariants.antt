use Rattle.std.proofs.Common.{◌≡◌, ◌≤◌, length}
use Rattle.cp_app.proofs.PutPieces.{PutUpTo}
use Rattle.cp_app.proofs.output.put_all.Given as goal

abbrev pub invariant-loop-rest : goal.invariant-loop-rest
invariant-loop-rest g l = record {
  never_falls : g.O.Sink.faults l.fn.out ≤ g.O.Sink.faults l.out;
  needless : g.O.Sink.needless l.out ≡ g.O.Sink.needless l.fn.out;
  put : PutUpTo l.fn.piece l.rest (g.O.Sink.held l.fn.out) (g.O.Sink.held l.out);
}

abbrev pub decreases-loop-rest : goal.decreases-loop-rest
decreases-loop-rest g l = length l.rest
