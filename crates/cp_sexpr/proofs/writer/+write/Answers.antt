use Rattle.std.proofs.Common.{◌+◌, ◌++◌, drop, sym, ap, ◌∙◌, arith}
use Rattle.cp_sexpr.specs.ListSpelling.{gap_before, next_by}
use Rattle.cp_sexpr.specs.Spelling.{spelling}
use Rattle.cp_sexpr.specs.View.{view, views}
use Rattle.cp_sexpr.proofs.Spelled.{first_items, next_items}
use Rattle.cp_sexpr.proofs.GrownText.{list_begins, list_goes_on, list_ends, empty_list, none_left}
use Rattle.cp_sexpr.proofs.writer.+write.Goals as goal
use Rattle.cp_sexpr.proofs.writer.+write.Goals.{append_list-in-Some+else-loop-item-test, append_list-in_default}

pub append_list-loop-item-init : goal.append_list-loop-item-init
append_list-loop-item-init t c =
    let top = c.args.is_top in
    let others = c.in-Some.others.now in
    let parts = first_items top c.args.items.now others c.in-Some.first.now c.in-Some.ensures.cases.0 in
    list_begins c.args.out.now c.push.new.self c.append_form.new.out (spelling (view c.in-Some.first.now)) (next_by top (views others)) _ c.push.ensures c.append_form.ensures parts

pub append_list-loop-item-preserved : goal.append_list-loop-item-preserved
append_list-loop-item-preserved t c =
    let l = c.loop-item in
    let top = c.args.is_top in
    let item = c.item-item.result in
    let others = c.in-Some.others.now in
    let left = next_by top (views (drop l.item-index others)) in
    let rest = next_by top (views (drop (l.item-index + 1) others)) in
    let next = next_items top others l.item-index item (omega arith) ∙ ap (λ f. gap_before top (view f) ++ (spelling (view f) ++ rest)) (sym c.item-item.is) in
    let same = next ∙ ap (λ g. g ++ (spelling (view item) ++ rest)) (sym c.gap.ensures) in
    list_goes_on c.args.out.now l.out c.append.new.self c.append_form-in-loop-item.new.out c.gap.result.now (spelling (view item)) left rest _ l.invariant same c.append.ensures c.append_form-in-loop-item.ensures

pub append_list-returns : goal.append_list-returns
append_list-returns t c = elim c.match-split_first.branch [
  | append_list-in-Some+else-loop-item-test w ↦ list_ends c.args.out.now w.loop-item.out c.match-split_first.out c.push-2.new.self _ _ w.loop-item.invariant (none_left c.args.is_top w.in-Some.others.now w.loop-item.item-index w.loop-item-test.false) w.out-is c.push-2.ensures
  | append_list-in_default w ↦ empty_list c.args.is_top c.args.out.now c.push.new.self c.match-split_first.out c.push-2.new.self c.args.items.now w.in_default.ensures.cases c.push.ensures w.out-is c.push-2.ensures
]
