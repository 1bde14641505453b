use Rattle.std.proofs.Common.{refl, sym, ◌∙◌, arith}
use Rattle.cp_sexpr.specs.View.{view}
use Rattle.cp_scope.specs.Forms.{headed_view}
use Rattle.cp_scope.proofs.Sizes.{inside_smaller}
use Rattle.cp_scope.proofs.TermSorts.{no_item_sort, one_item_sort, more_items_sort}
use Rattle.cp_scope.proofs.sorts.+sort_of.Goals as goal

pub sort_of-requires : goal.sort_of-requires
sort_of-requires t c =
    (omega (arith, inside_smaller (view c.args.form.now) (headed_view c.in-Some.list) c.in-Some.list.items.now 0 c.item-item.result (sym c.in-Some.ensures) refl c.in-len1.len_at_least c.item-item.is, c.decreases), tt)

pub returns-in-empty : goal.returns-in-empty
returns-in-empty t c =
    no_item_sort c.args.variables.now (view c.args.form.now) (headed_view c.in-Some.list) c.in-Some.ensures c.in-Cat.ensures c.in-Some.list.items.now refl c.in-empty.len_below

pub returns-in-len1 : goal.returns-in-len1
returns-in-len1 t c =
    c.sort_of.ensures ∙ one_item_sort c.args.variables.now (view c.args.form.now) (headed_view c.in-Some.list) c.in-Some.ensures c.in-Cat.ensures c.in-Some.list.items.now c.item-item.result refl c.in-len1.len_at_least c.in-len1.len_below c.item-item.is

pub returns-in_default-items : goal.returns-in_default-items
returns-in_default-items t c =
    more_items_sort c.args.variables.now (view c.args.form.now) (headed_view c.in-Some.list) c.in-Some.ensures c.in-Cat.ensures c.in-Some.list.items.now refl c.in_default-items.len_at_least
