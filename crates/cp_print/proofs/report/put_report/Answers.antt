use Rattle.std.proofs.Common.{List, ◌+◌, refl, sym, subst}
use Rattle.cp_language.specs.Input.{form_of, stated}
use Rattle.cp_language.specs.ShapesText.{chosen_report_forms}
use Rattle.cp_load.specs.Inputs.{entry_view, input_entries}
use Rattle.cp_load.specs.declared.input.Entry.{Entry}
use Rattle.cp_sexpr.proofs.Spelled.{OnErr-from}
use Rattle.cp_print.specs.Chosen.{chosen_by}
use Rattle.cp_print.specs.WrittenForms.{Leaves, entry_forms, trees_behind}
use Rattle.cp_print.proofs.Writings.{leaves_all, leaves_more, leaves_front}
use Rattle.cp_print.proofs.Entries.{entries_left, entry_next, all_written}
use Rattle.cp_print.proofs.report.put_report.Goals as goal

pub loop-entry-init : goal.loop-entry-init
loop-entry-init c =
    let a = c.args.out.now.items in
    let ea = c.args.ends.now.items in
    let whole = chosen_report_forms (chosen_by c.args.chosen) (input_entries c.args.input.now) c.args.trees.now in
    subst (λ (es : List Entry). Leaves a ea a ea whole (entries_left (chosen_by c.args.chosen) es 0 c.args.trees.now)) (sym c.deref-entry-items.ensures.value) (leaves_all a ea whole)

pub loop-entry-preserved : goal.loop-entry-preserved
loop-entry-preserved c =
    let chosen = chosen_by c.args.chosen in
    let es = c.deref-entry-items.result.now in
    let d = entry_view c.entry-item.result in
    let l = c.loop-entry in
    let ts = l.rest.now in
    let rest = c.in_ok-rest.rest.now in
    let next = entry_next chosen es l.entry-index c.entry-item.result ts rest c.loop-entry-test.true c.entry-item.is c.in_ok-rest.ensures.rest in
    leaves_more c.args.out.now.items c.args.ends.now.items l.out.items l.ends.items c.put_entry.new.out.items c.put_entry.new.ends.items (chosen_report_forms chosen (input_entries c.args.input.now) c.args.trees.now)
    (entry_forms chosen (form_of d) (stated d) ts) (entries_left chosen es l.entry-index ts) (entries_left chosen es (l.entry-index + 1) rest) l.invariant next c.in_ok-rest.ensures.ok

pub returns-in_err-rest-clause-err : goal.returns-in_err-rest-clause-err
returns-in_err-rest-clause-err c =
    let chosen = chosen_by c.args.chosen in
    let es = c.deref-entry-items.result.now in
    let d = entry_view c.entry-item.result in
    let l = c.loop-entry in
    let ts = l.rest.now in
    let left = trees_behind (stated d) ts in
    let next = entry_next chosen es l.entry-index c.entry-item.result ts left c.loop-entry-test.true c.entry-item.is refl in
    OnErr-from c.from_residual.result (leaves_front c.args.out.now.items c.args.ends.now.items l.out.items l.ends.items c.put_entry.new.out.items (chosen_report_forms chosen (input_entries c.args.input.now) c.args.trees.now)
    (entry_forms chosen (form_of d) (stated d) ts) (entries_left chosen es l.entry-index ts) (entries_left chosen es (l.entry-index + 1) left) l.invariant next c.in_err-rest.ensures.err)

pub returns-clause-ok : goal.returns-clause-ok
returns-clause-ok c =
    all_written (chosen_by c.args.chosen) c.args.out.now.items c.args.ends.now.items c.loop-entry.out.items c.loop-entry.ends.items c.deref-entry-items.result.now c.loop-entry.entry-index c.loop-entry.rest.now
    (chosen_report_forms (chosen_by c.args.chosen) (input_entries c.args.input.now) c.args.trees.now) c.loop-entry.invariant c.loop-entry-test.false
