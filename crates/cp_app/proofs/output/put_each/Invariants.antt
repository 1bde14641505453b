use Rattle.std.proofs.Common.{◌≡◌, ◌≤◌, map, drop}
use Rattle.std.specs.List.{concat}
use Rattle.cp_app.proofs.PutPieces.{PutUpTo}
use Rattle.cp_app.proofs.output.put_each.Given as goal

abbrev pub invariant-loop-piece : goal.invariant-loop-piece
invariant-loop-piece g l = record {
  never_falls : g.O.Sink.faults l.fn.out ≤ g.O.Sink.faults l.out;
  needless : g.O.Sink.needless l.out ≡ g.O.Sink.needless l.fn.out;
  put : PutUpTo (concat (map (λ piece. piece.now) l.fn.pieces)) (concat (map (λ piece. piece.now) (drop l.piece-index l.fn.pieces))) (g.O.Sink.held l.fn.out) (g.O.Sink.held l.out);
}
