use Rattle.std.proofs.Common.{arith}
use Rattle.cp_spelled.proofs.Stated.{list_smaller, locals-taken, locals-done, locals-inside}
use Rattle.cp_scope.proofs.Sizes.{item_smaller}
use Rattle.cp_spelled.proofs.locals.+add_locals.Goals as goal

pub add_locals-requires : goal.add_locals-requires
add_locals-requires t c =
    let list = list_smaller c.args.form.now c.in-List.place c.in-List.items c.as_slice-forms.result.now c.in-List.is c.as_slice-forms.ensures.value in
    let item = item_smaller c.as_slice-forms.result.now c.loop-item.item-index c.item-item.result c.loop-item-test.true c.item-item.is in
    (omega (arith, list, item, c.decreases), tt)

pub loop-item-preserved : goal.loop-item-preserved
loop-item-preserved t c =
    locals-taken c.as_slice-forms.result.now c.loop-item.item-index c.item-item.result c.loop-item-test.true c.item-item.is
    c.loop-item.out.items c.add_locals.new.out.items _ c.in_ok-add_locals.ensures c.loop-item.invariant

pub returns : goal.returns
returns t c =
    locals-inside c.args.form.now c.in-List.place c.in-List.items c.as_slice-forms.result.now c.in-List.is c.as_slice-forms.ensures.value
    c.args.out.now.items c.add_local.new.out.items c.loop-item.out.items c.in_ok-add_local.ensures
    (locals-done c.as_slice-forms.result.now c.loop-item.item-index c.loop-item-test.false c.loop-item.out.items _ c.loop-item.invariant)
