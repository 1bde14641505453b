use Rattle.std.proofs.Common.{false, ◌+◌, ◌∷◌, map, drop, sym, ap, ◌∙◌}
use Rattle.std.proofs.lemmas.List.{drop_all, drop_more}
use Rattle.cp_print.proofs.SpelledItems.{items_begin, items_go_on, items_end}
use Rattle.cp_print.proofs.writing.put_each.Goals as goal

pub loop-item-init : goal.loop-item-init
loop-item-init g c = items_begin false c.args.out.now (map (g.T.Printed.printed c.args.names.now) c.args.items.now)

pub loop-item-preserved : goal.loop-item-preserved
loop-item-preserved g c =
    let l = c.loop-item in
    let form = g.T.Printed.printed c.args.names.now in
    let xs = c.args.items.now in
    let x = c.item-item.result in
    let next = ap (map form) (drop_more xs l.item-index x c.loop-item-test.true) ∙ ap (λ y. form y ∷ map form (drop (l.item-index + 1) xs)) (sym c.item-item.is) in
    items_go_on false (form x) _ _ _ l.invariant next c.put.ensures

pub returns : goal.returns
returns g c = items_end false _ _ c.loop-item.invariant (ap (map (g.T.Printed.printed c.args.names.now)) (drop_all c.loop-item.item-index c.args.items.now c.loop-item-test.false))
