use Rattle.std.proofs.Common.{sym, ap, ◌∙◌}
use Rattle.std.specs.Str.{bytes_eq}
use Rattle.cp_scope.proofs.NamesInUse.{place_here, place_behind}
use Rattle.cp_scope.proofs.name_set.first_place.Goals as goal

pub returns-then-eq : goal.returns-then-eq
returns-then-eq c =
    let l = c.loop-place in
    let same = ap (bytes_eq c.args.name.now) (sym c.as_str.ensures) ∙ sym c.eq.ensures ∙ c.if-eq.true in
    sym (place_here c.args.names.now l.place c.index-names-place.result c.args.name.now c.loop-place-test.true c.index-names-place.is same) ∙ l.invariant

pub loop-place-preserved : goal.loop-place-preserved
loop-place-preserved c =
    let l = c.loop-place in
    let other = ap (bytes_eq c.args.name.now) (sym c.as_str.ensures) ∙ sym c.eq.ensures ∙ c.if-eq.false in
    place_behind c.args.names.now l.place c.index-names-place.result c.args.name.now c.loop-place-test.true c.index-names-place.is other ∙ l.invariant
