use Rattle.std.proofs.Common.{◌∙◌, arith}
use Rattle.cp_lists.proofs.Fronts.{both_parts}
use Rattle.cp_app.proofs.PutPieces.{PutUpTo-more, PutUpTo-stop, PutUpTo-last, HasPut-err}
use Rattle.cp_app.proofs.output.put_pieces.Goals as goal

pub returns-in_err-put_all-clause-put : goal.returns-in_err-put_all-clause-put
returns-in_err-put_all-clause-put g c = λ before is.
    let held_middle = g.O.Sink.held c.loop-end.out in
    let held_new = g.O.Sink.held c.put_all.new.out in
    let rest = c.loop-end.rest.now in
    let part = c.split_at.result.0.now in
    let after = c.split_at.result.1.now in
    HasPut-err before c.args.text.now held_new c.from_residual.result c.from_residual.ensures.0
    (PutUpTo-stop c.args.text.now rest part after (g.O.Sink.held c.args.out.now) held_middle held_new c.loop-end.invariant.put
    (both_parts c.min.result rest part after c.split_at.ensures.front c.split_at.ensures.back) c.in_err-put_all.ensures.put before is)

pub loop-end-preserved : goal.loop-end-preserved
loop-end-preserved g c =
    let held_middle = g.O.Sink.held c.loop-end.out in
    let held_new = g.O.Sink.held c.put_all.new.out in
    let rest = c.loop-end.rest.now in
    let part = c.split_at.result.0.now in
    let after = c.split_at.result.1.now in
    record {
      within = omega (arith, c.loop-end.invariant.within, c.split_at.ensures.back_len);
      never_falls = omega (arith, c.loop-end.invariant.never_falls, c.in_ok-put_all.ensures.never_falls);
      needless = c.in_ok-put_all.ensures.needed ∙ c.loop-end.invariant.needless;
      put = PutUpTo-more c.args.text.now rest part after (g.O.Sink.held c.args.out.now) held_middle held_new c.loop-end.invariant.put
          (both_parts c.min.result rest part after c.split_at.ensures.front c.split_at.ensures.back) c.in_ok-put_all.ensures.put;
    }

pub returns-clause-put : goal.returns-clause-put
returns-clause-put g c =
    PutUpTo-last c.args.text.now c.loop-end.rest.now (g.O.Sink.held c.args.out.now) (g.O.Sink.held c.loop-end.out) (g.O.Sink.held c.put_all-2.new.out) c.put_all-2.result
    c.loop-end.invariant.put c.put_all-2.ensures.put
