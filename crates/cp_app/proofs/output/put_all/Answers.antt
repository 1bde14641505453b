use Rattle.std.proofs.Common.{◌≡◌, ◌∙◌, ◌++◌, [], take, refl, sym, arith}
use Rattle.std.proofs.lemmas.List.{append-nil}
use Rattle.cp_lists.proofs.Fronts.{both_parts, some_left}
use Rattle.cp_app.proofs.PutPieces.{PutUpTo-more, PutUpTo-stop, Puts-ok, Puts-none, HasPut-err}
use Rattle.cp_app.proofs.output.put_all.Goals as goal

pub returns-in_err-count-clause-put : goal.returns-in_err-count-clause-put
returns-in_err-count-clause-put g c = λ before is.
    let held_old = g.O.Sink.held c.args.out.now in
    let held_middle = g.O.Sink.held c.loop-rest.out in
    let held_new = g.O.Sink.held c.put.new.self in
    let rest = c.loop-rest.rest.now in
    HasPut-err before c.args.piece.now held_new c.from_residual.result c.from_residual.ensures.0
    (PutUpTo-stop c.args.piece.now rest rest [] held_old held_middle held_new c.loop-rest.invariant.put (sym (append-nil rest))
    (λ now held. Puts-none held_middle held_new rest now c.in_err-count.field-0.0 (some_left _ rest c.is_empty.ensures c.loop-rest-test.true) c.in_err-count.ensures.moved held) before is)

pub returns-in_err-count-clause-needed : goal.returns-in_err-count-clause-needed
returns-in_err-count-clause-needed g c =
    c.in_err-count.ensures.needed (some_left _ c.loop-rest.rest.now c.is_empty.ensures c.loop-rest-test.true) ∙ c.loop-rest.invariant.needless

pub loop-rest-preserved : goal.loop-rest-preserved
loop-rest-preserved g c =
    let held_old = g.O.Sink.held c.args.out.now in
    let held_middle = g.O.Sink.held c.loop-rest.out in
    let held_new = g.O.Sink.held c.put.new.self in
    let rest = c.loop-rest.rest.now in
    let n = c.in_ok-count.count in
    let after = c.split_at.result.1.now in
    let split : rest ≡ take n rest ++ after = both_parts n rest (take n rest) after refl c.split_at.ensures.back in
    record {
      never_falls = omega (arith, c.loop-rest.invariant.never_falls, c.in_ok-count.ensures.never_falls);
      needless = c.in_ok-count.ensures.needed (some_left _ rest c.is_empty.ensures c.loop-rest-test.true) ∙ c.loop-rest.invariant.needless;
      put = PutUpTo-more c.args.piece.now rest (take n rest) after held_old held_middle held_new c.loop-rest.invariant.put split
          (λ now held. Puts-ok held_middle held_new rest now n c.in_ok-count.ensures.moved held);
    }
