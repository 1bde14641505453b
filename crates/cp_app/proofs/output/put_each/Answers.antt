use Rattle.std.proofs.Common.{◌∙◌, ◌+◌, [], map, get_or, drop, arith}
use Rattle.std.specs.List.{concat}
use Rattle.cp_app.proofs.PutPieces.{next_piece, PutUpTo-more, PutUpTo-stop, HasPut-err}
use Rattle.cp_app.proofs.output.put_each.Goals as goal

pub returns-in_err-put_all-clause-put : goal.returns-in_err-put_all-clause-put
returns-in_err-put_all-clause-put g c = λ before is.
    let i = c.loop-piece.piece-index in
    let pieces = c.args.pieces.now in
    let held_new = g.O.Sink.held c.put_all.new.out in
    HasPut-err before (concat (map (λ piece. piece.now) pieces)) held_new c.from_residual.result c.from_residual.ensures.0
    (PutUpTo-stop (concat (map (λ piece. piece.now) pieces)) (concat (map (λ piece. piece.now) (drop i pieces))) (get_or pieces i (record { ref_ptr = (0, 0); now = [] })).now
    (concat (map (λ piece. piece.now) (drop (i + 1) pieces))) (g.O.Sink.held c.args.out.now) (g.O.Sink.held c.loop-piece.out) held_new c.loop-piece.invariant.put
    (next_piece pieces i (record { ref_ptr = (0, 0); now = [] }) c.loop-piece-test.true) c.in_err-put_all.ensures.put before is)

pub loop-piece-preserved : goal.loop-piece-preserved
loop-piece-preserved g c =
    let i = c.loop-piece.piece-index in
    let pieces = c.args.pieces.now in
    record {
      never_falls = omega (arith, c.loop-piece.invariant.never_falls, c.in_ok-put_all.ensures.never_falls);
      needless = c.in_ok-put_all.ensures.needed ∙ c.loop-piece.invariant.needless;
      put = PutUpTo-more (concat (map (λ piece. piece.now) pieces)) (concat (map (λ piece. piece.now) (drop i pieces))) (get_or pieces i (record { ref_ptr = (0, 0); now = [] })).now
          (concat (map (λ piece. piece.now) (drop (i + 1) pieces))) (g.O.Sink.held c.args.out.now) (g.O.Sink.held c.loop-piece.out) (g.O.Sink.held c.put_all.new.out) c.loop-piece.invariant.put
          (next_piece pieces i (record { ref_ptr = (0, 0); now = [] }) c.loop-piece-test.true) c.in_ok-put_all.ensures.put;
    }
