use Rattle.std.proofs.Common.{◌≡◌, false, ◌+◌, [], ◌∷◌, refl, sym, ◌∙◌}
use Rattle.cp_language.specs.ShapesText.{chosen_from}
use Rattle.cp_language.specs.Report.{label_form}
use Rattle.cp_print.specs.Chosen.{chosen_by}
use Rattle.cp_print.proofs.Writings.{leaves_all, leaves_more, leaves_same, leaves_front, leaves_none}
use Rattle.cp_sexpr.proofs.Spelled.{OnErr-from}
use Rattle.cp_print.proofs.Entries.{labels_left, labels_put, labels_skipped, labels_done}
use Rattle.cp_print.proofs.report.put_labels.Goals as goal

pub loop-number-init : goal.loop-number-init
loop-number-init c = leaves_all c.args.out.now.items c.args.ends.now.items (chosen_from (chosen_by c.args.chosen) c.args.of_problem.now 0 c.args.labels.now)

pub loop-number-preserved-then-not-is_chosen : goal.loop-number-preserved-then-not-is_chosen
loop-number-preserved-then-not-is_chosen c =
    let names = c.args.of_problem.now in
    let chosen = chosen_by c.args.chosen in
    let labels = c.args.labels.now in
    let l = c.loop-number in
    let not_chosen : chosen c.index-labels-number.result ≡ false = sym c.is_chosen.ensures ∙ c.if-not-is_chosen.true in
    leaves_same c.args.out.now.items c.args.ends.now.items l.out.items l.ends.items (chosen_from chosen names 0 labels) (labels_left chosen names l.number labels) (labels_left chosen names (l.number + 1) labels)
    l.invariant (labels_skipped chosen names l.number labels c.index-labels-number.result c.loop-number-test.true c.index-labels-number.is not_chosen)

pub loop-number-preserved : goal.loop-number-preserved
loop-number-preserved c =
    let names = c.args.of_problem.now in
    let chosen = chosen_by c.args.chosen in
    let labels = c.args.labels.now in
    let l = c.loop-number in
    leaves_more c.args.out.now.items c.args.ends.now.items l.out.items l.ends.items c.put_label_form.new.out.items c.put_label_form.new.ends.items (chosen_from chosen names 0 labels) (label_form names l.number c.index-labels-number.result ∷ [])
    (labels_left chosen names l.number labels) (labels_left chosen names (l.number + 1) labels)
    l.invariant (labels_put chosen names l.number labels c.index-labels-number.result c.is_chosen.result (label_form names l.number c.index-labels-number.result) c.loop-number-test.true c.index-labels-number.is c.is_chosen.ensures c.if-not-is_chosen.false refl)
    c.in_ok-put_label_form.ensures.ok

pub returns-in_err-put_label_form-clause-err : goal.returns-in_err-put_label_form-clause-err
returns-in_err-put_label_form-clause-err c =
    let names = c.args.of_problem.now in
    let chosen = chosen_by c.args.chosen in
    let labels = c.args.labels.now in
    let l = c.loop-number in
    let next = labels_put chosen names l.number labels c.index-labels-number.result c.is_chosen.result (label_form names l.number c.index-labels-number.result) c.loop-number-test.true c.index-labels-number.is c.is_chosen.ensures c.if-not-is_chosen.false refl in
    OnErr-from c.from_residual.result (leaves_front c.args.out.now.items c.args.ends.now.items l.out.items l.ends.items c.put_label_form.new.out.items (chosen_from chosen names 0 labels) (label_form names l.number c.index-labels-number.result ∷ [])
    (labels_left chosen names l.number labels) (labels_left chosen names (l.number + 1) labels) l.invariant next c.in_err-put_label_form.ensures.err)

pub returns-clause-ok : goal.returns-clause-ok
returns-clause-ok c =
    let names = c.args.of_problem.now in
    let chosen = chosen_by c.args.chosen in
    let l = c.loop-number in
    leaves_none c.args.out.now.items c.args.ends.now.items l.out.items l.ends.items (chosen_from chosen names 0 c.args.labels.now) (labels_left chosen names l.number c.args.labels.now)
    l.invariant (labels_done chosen names l.number c.args.labels.now c.loop-number-test.false)
