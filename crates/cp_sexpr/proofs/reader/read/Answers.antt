use Rattle.std.proofs.Common.{◌≡◌, [], sym, ap, ◌∙◌, subst, arith}
use Rattle.std.proofs.lemmas.Result.{err_from_is_err_and, IfErr-weaker}
use Rattle.cp_lists.proofs.Fronts.{front_spelled}
use Rattle.cp_sexpr.specs.UnfinishedForms.{building_of, places_of_unclosed, RefusesEnd}
use Rattle.cp_sexpr.specs.Pieces.{BeginsWith, spelling, place_after}
use Rattle.cp_sexpr.specs.Reading.{IsErrorOf}
use Rattle.cp_sexpr.specs.Written.{IsWritten}
use Rattle.cp_sexpr.specs.CutPieces.{piece_of}
use Rattle.cp_sexpr.specs.View.{views}
use Rattle.cp_sexpr.proofs.Readings.{IfOk-both, read_piece, read_all, read_refused, read_piece_refused, read_end_refused, read_line, read_col}
use Rattle.cp_sexpr.proofs.reader.read.Goals as goal

pub next_piece-requires-clause-lines : goal.next_piece-requires-clause-lines
next_piece-requires-clause-lines c =
    let l = c.loop-builder in
    let h = read_line c.args.bytes.now l.rest.now l.place (building_of l.builder) l.invariant in
    omega (arith, h, c.requires)

pub next_piece-requires-clause-columns : goal.next_piece-requires-clause-columns
next_piece-requires-clause-columns c =
    let l = c.loop-builder in
    let h = read_col c.args.bytes.now l.rest.now l.place (building_of l.builder) l.invariant in
    omega (arith, h, c.requires)

pub returns-in_err-piece-clause-refused : goal.returns-in_err-piece-clause-refused
returns-in_err-piece-clause-refused c =
    let l = c.loop-builder in
    let s = building_of l.builder in
    let p = err_from_is_err_and c.from_residual.result c.from_residual.ensures.1 in
    rw (p.1, p.2) (read_refused c.args.bytes.now l.rest.now l.place s c.in_err-piece.field-0.0 l.invariant (c.in_err-piece.ensures.refused (places_of_unclosed s.lists)))

pub returns-in_err-take-clause-refused : goal.returns-in_err-take-clause-refused
returns-in_err-take-clause-refused c =
    let l = c.loop-builder in
    let s = building_of l.builder in
    let begins : BeginsWith l.rest.now (piece_of c.in-Some.piece) c.in-Some.after.now = rw c.in-Some.is at c.in_ok-piece.ensures.piece in
    let p = err_from_is_err_and c.from_residual-in_err-take.result c.from_residual-in_err-take.ensures.1 in
    rw (p.1, p.2) (read_piece_refused c.args.bytes.now l.rest.now l.place s (piece_of c.in-Some.piece) c.in-Some.after.now c.in_err-take.field-0.0 l.invariant begins c.in_err-take.ensures.refused)

pub place_after-place-requires-clause-lines : goal.place_after-place-requires-clause-lines
place_after-place-requires-clause-lines c =
    let l = c.loop-builder in
    let h = read_line c.args.bytes.now l.rest.now l.place (building_of l.builder) l.invariant in
    omega (arith, h, c.requires, c.split_at.ensures.front_len)

pub place_after-place-requires-clause-columns : goal.place_after-place-requires-clause-columns
place_after-place-requires-clause-columns c =
    let l = c.loop-builder in
    let h = read_col c.args.bytes.now l.rest.now l.place (building_of l.builder) l.invariant in
    omega (arith, h, c.requires, c.split_at.ensures.front_len)

pub loop-builder-preserved : goal.loop-builder-preserved
loop-builder-preserved c =
    let l = c.loop-builder in
    let p = piece_of c.in-Some.piece in
    let after = c.in-Some.after.now in
    let begins : BeginsWith l.rest.now p after = rw c.in-Some.is at c.in_ok-piece.ensures.piece in
    let spelled = c.split_at.ensures.front ∙ front_spelled l.rest.now (spelling p) after begins.spelled in
    read_piece c.args.bytes.now l.rest.now l.place (building_of l.builder) p after c.place_after-place.result (building_of c.take.new.self) l.invariant begins
    c.in_ok-take.ensures.accepted (c.place_after-place.ensures ∙ ap (place_after l.place) spelled) c.in_ok-take.ensures.ok

pub returns-clause-forms : goal.returns-clause-forms
returns-clause-forms c =
    let l = c.loop-builder in
    let s = building_of l.builder in
    let end : l.rest.now ≡ [] = rw c.in_default.is at c.in_ok-piece.ensures.piece in
    IfOk-both c.finish.result (λ v. views v.items ≡ s.items) (λ _. s.lists ≡ []) (λ v. IsWritten c.args.bytes.now (views v.items))
    (λ v forms closed. subst (IsWritten c.args.bytes.now) (sym forms) (read_all c.args.bytes.now l.rest.now l.place s l.invariant end closed)) c.finish.ensures.forms c.finish.ensures.closed

pub returns-clause-refused : goal.returns-clause-refused
returns-clause-refused c =
    let l = c.loop-builder in
    let s = building_of l.builder in
    let end : l.rest.now ≡ [] = rw c.in_default.is at c.in_ok-piece.ensures.piece in
    IfErr-weaker c.finish.result (RefusesEnd s.lists) (IsErrorOf c.args.bytes.now) (λ e h. read_end_refused c.args.bytes.now l.rest.now l.place s e l.invariant end h) c.finish.ensures.unclosed
