use Rattle.std.proofs.Common.{◌≢◌, ℕ, ◌+◌, ◌≤◌, [], ◌++◌, length, take, drop, arith, length-append, length-take, length-drop}
use Rattle.cp_app.specs.Headline.{most_bytes}
use Rattle.cp_app.proofs.TakenPieces.{needed_so_far, not_empty, OpenSoFar-more, TookFrom-more, TookFrom-extended, TookFrom-end, TookFrom-at_most, TookFrom-failed, TookFrom-too_long, HasStopped-memory}
use Rattle.cp_app.proofs.input.read_all.Goals as goal

pub returns-in_default-clause-stopped : goal.returns-in_default-clause-stopped
returns-in_default-clause-stopped g c = λ input is.
    let left_old = g.S.Source.left c.args.source.now in
    let left_middle = g.S.Source.left c.loop-buffer.source in
    let left_new = g.S.Source.left c.take.new.self in
    let took = TookFrom-failed c.loop-buffer.bytes.items (take c.min-room.result c.loop-buffer.buffer) c.take.new.buf c.in_default.field-0 left_old left_middle left_new c.loop-buffer.invariant.took c.in_default.ensures.moved in
    TookFrom-at_most c.loop-buffer.bytes.items left_old left_new took c.loop-buffer.invariant.within input is

pub returns-then-count-eq0-clause-whole : goal.returns-then-count-eq0-clause-whole
returns-then-count-eq0-clause-whole g c = λ input is.
    let left_old = g.S.Source.left c.args.source.now in
    let left_middle = g.S.Source.left c.loop-buffer.source in
    let left_new = g.S.Source.left c.take.new.self in
    let some : take c.min-room.result c.loop-buffer.buffer ≢ [] = not_empty (take c.min-room.result c.loop-buffer.buffer) (simp length-take (omega (arith, c.loop-buffer.bytes.ok.0))) in
    TookFrom-end c.loop-buffer.bytes.items (take c.min-room.result c.loop-buffer.buffer) c.take.new.buf c.in-Ok.count left_old left_middle left_new c.loop-buffer.invariant.took c.in-Ok.ensures.moved
    c.if-count-eq0.true some input is

pub loop-buffer-preserved : goal.loop-buffer-preserved
loop-buffer-preserved g c =
    let left_old = g.S.Source.left c.args.source.now in
    let left_middle = g.S.Source.left c.loop-buffer.source in
    let left_new = g.S.Source.left c.take.new.self in
    record {
      within = rw c.in_ok-extend_from_slice.ensures.items (omega (arith, length-append {A = ℕ}, length-take {A = ℕ}, c.take.auto.buf, c.in-Ok.ensures.count, c.loop-buffer.bytes.ok.0));
      room = omega (arith, length-append {A = ℕ}, length-take {A = ℕ}, length-drop {A = ℕ}, c.take.auto.buf, c.loop-buffer.invariant.room);
      never_falls = omega (arith, c.loop-buffer.invariant.never_falls, c.in-Ok.ensures.never_falls);
      open_so_far = OpenSoFar-more c.in-Ok.count (g.S.Source.has_ended c.args.source.now) (g.S.Source.has_ended c.loop-buffer.source) (g.S.Source.has_ended c.take.new.self)
          (g.S.Source.needless c.args.source.now) (g.S.Source.needless c.loop-buffer.source) (g.S.Source.needless c.take.new.self)
          c.loop-buffer.invariant.open_so_far (λ not_ended. c.in-Ok.ensures.needed not_ended (simp length-take (omega (arith, c.loop-buffer.bytes.ok.0)))) c.in-Ok.ensures.open c.if-count-eq0.false;
      took = TookFrom-extended c.loop-buffer.bytes.items c.extend_from_slice.new.self.items (take c.min-room.result c.loop-buffer.buffer) c.take.new.buf (drop c.min-room.result c.loop-buffer.buffer) c.in-Ok.count
          left_old left_middle left_new c.loop-buffer.invariant.took c.in-Ok.ensures.moved (omega (arith, c.take.auto.buf, c.in-Ok.ensures.count)) c.in_ok-extend_from_slice.ensures.items;
    }

pub returns-in_err-extend_from_slice-clause-stopped : goal.returns-in_err-extend_from_slice-clause-stopped
returns-in_err-extend_from_slice-clause-stopped g c = λ input is.
    let left_old = g.S.Source.left c.args.source.now in
    let left_middle = g.S.Source.left c.loop-buffer.source in
    let left_new = g.S.Source.left c.take.new.self in
    let took = TookFrom-more c.loop-buffer.bytes.items (take c.min-room.result c.loop-buffer.buffer) c.take.new.buf c.in-Ok.count left_old left_middle left_new c.loop-buffer.invariant.took c.in-Ok.ensures.moved in
    let short : length (c.loop-buffer.bytes.items ++ take c.in-Ok.count c.take.new.buf) ≤ most_bytes + 1 =
    omega (arith, length-append {A = ℕ}, length-take {A = ℕ}, c.take.auto.buf, c.in-Ok.ensures.count, c.loop-buffer.bytes.ok.0) in
    HasStopped-memory c.from_residual.result input left_new c.from_residual.ensures.1
    (TookFrom-at_most (c.loop-buffer.bytes.items ++ take c.in-Ok.count c.take.new.buf) left_old left_new took short input is)

pub returns-clause-stopped : goal.returns-clause-stopped
returns-clause-stopped g c = λ input is.
    TookFrom-too_long c.loop-buffer.bytes.items (g.S.Source.left c.args.source.now) (g.S.Source.left c.loop-buffer.source) c.loop-buffer.invariant.took c.loop-buffer.invariant.within (omega (arith, c.loop-buffer.bytes.ok.0)) input is

pub returns-in_default-clause-needed : goal.returns-in_default-clause-needed
returns-in_default-clause-needed g c = needed_so_far c.loop-buffer.invariant.open_so_far (λ not_ended. c.in_default.ensures.needed not_ended (simp length-take (omega (arith, c.loop-buffer.bytes.ok.0))))

pub returns-then-count-eq0-clause-needed : goal.returns-then-count-eq0-clause-needed
returns-then-count-eq0-clause-needed g c = needed_so_far c.loop-buffer.invariant.open_so_far (λ not_ended. c.in-Ok.ensures.needed not_ended (simp length-take (omega (arith, c.loop-buffer.bytes.ok.0))))

pub returns-in_err-extend_from_slice-clause-needed : goal.returns-in_err-extend_from_slice-clause-needed
returns-in_err-extend_from_slice-clause-needed g c = needed_so_far c.loop-buffer.invariant.open_so_far (λ not_ended. c.in-Ok.ensures.needed not_ended (simp length-take (omega (arith, c.loop-buffer.bytes.ok.0))))

pub returns-clause-needed : goal.returns-clause-needed
returns-clause-needed g c = λ is. (c.loop-buffer.invariant.open_so_far is).1
