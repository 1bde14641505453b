use Rattle.cp_hom.specs.PartialMaps.{partial_view}
use Rattle.cp_hom.proofs.PartValues.{value_passed, value_next, value_never, values_all}
use Rattle.cp_hom.proofs.strand_matches.match_values.Goals as goal

pub loop-number-preserved-then-not-occurs_before : goal.loop-number-preserved-then-not-occurs_before
loop-number-preserved-then-not-occurs_before c =
    value_passed c.args.role.now c.args.height c.is_sound.ensures c.args.from.now c.args.to.now _ c.variables-declaration-items.ensures c.loop-number.number c.declaration-item.result
    c.loop-number-test.true c.declaration-item.is c.numbered-id.result c.numbered-id.ensures c.occurs_before.result c.occurs_before.ensures (partial_view c.args.given) (partial_view c.loop-number.found)
    c.loop-number.invariant c.if-not-occurs_before.true

pub loop-number-preserved : goal.loop-number-preserved
loop-number-preserved c =
    value_next c.args.role.now c.args.height c.is_sound.ensures c.args.from.now c.args.to.now _ c.variables-declaration-items.ensures c.loop-number.number c.declaration-item.result
    c.loop-number-test.true c.declaration-item.is c.numbered-id.result c.numbered-id.ensures c.occurs_before.result c.occurs_before.ensures (partial_view c.args.given) (partial_view c.loop-number.found)
    c.loop-number.invariant c.if-not-occurs_before.false (partial_view c.in-Some.next) (rw c.in-Some.is at c.in_ok-next.ensures)

pub returns-in-None : goal.returns-in-None
returns-in-None c =
    value_never c.args.role.now c.args.height c.is_sound.ensures c.args.from.now c.args.to.now _ c.variables-declaration-items.ensures c.loop-number.number c.declaration-item.result
    c.loop-number-test.true c.declaration-item.is c.numbered-id.result c.numbered-id.ensures c.occurs_before.result c.occurs_before.ensures (partial_view c.args.given) (partial_view c.loop-number.found)
    c.loop-number.invariant c.if-not-occurs_before.false (rw c.in-None.is at c.in_ok-next.ensures)

pub returns : goal.returns
returns c =
    values_all c.args.role.now c.args.height c.is_sound.ensures c.args.from.now c.args.to.now _ c.variables-declaration-items.ensures c.loop-number.number
    (partial_view c.args.given) (partial_view c.loop-number.found) c.loop-number-test.false c.loop-number.invariant
