use Rattle.std.proofs.Common.{◌≡◌, ◌≤◌, ◌+◌, ◌-◌, length}
use Rattle.cp_app.specs.Headline.{most_bytes}
use Rattle.cp_app.proofs.TakenPieces.{OpenSoFar, TookFrom}
use Rattle.cp_app.proofs.input.read_all.Given as goal

abbrev pub invariant-loop-buffer : goal.invariant-loop-buffer
invariant-loop-buffer g l = record {
  within : length l.bytes.items ≤ most_bytes + 1;
  room : length l.buffer ≡ 4096;
  never_falls : g.S.Source.faults l.fn.source ≤ g.S.Source.faults l.source;
  open_so_far : OpenSoFar (g.S.Source.has_ended l.fn.source) (g.S.Source.has_ended l.source) (g.S.Source.needless l.fn.source) (g.S.Source.needless l.source);
  took : TookFrom l.bytes.items (g.S.Source.left l.fn.source) (g.S.Source.left l.source);
}

abbrev pub decreases-loop-buffer : goal.decreases-loop-buffer
decreases-loop-buffer g l = most_bytes + 1 - length l.bytes.items
