use Rattle.std.proofs.Common.{◌++◌, ◌∷◌, [], ap, ◌∙◌}
use Rattle.cp_lists.proofs.Members.{into_map, item_is_in}
use Rattle.cp_model.specs.Tree.{Label}
use Rattle.cp_sexpr.specs.View.{view}
use Rattle.cp_load.specs.UncheckedProblems.{unchecked_view}
use Rattle.cp_report.specs.Labels.{label_of}
use Rattle.cp_spelled.proofs.Declared.{each-made, all-made}
use Rattle.cp_readback.proofs.stated_labels.labels_stated.Goals as goal

pub label_of-requires-clause-fits : goal.label_of-requires-clause-fits
label_of-requires-clause-fits c =
    c.requires.fit (view c.label-item.result) (into_map view (item_is_in c.args.labels.now c.loop-label.label-index c.label-item.result c.loop-label-test.true c.label-item.is))

pub loop-label-preserved : goal.loop-label-preserved
loop-label-preserved c =
    let made = c.loop-label.stated.items in
    each-made c.args.labels.now c.loop-label.label-index (label_of (unchecked_view c.args.problem.now)) c.label-item.result c.loop-label-test.true c.label-item.is made c.push.new.self.items _
    (c.in_ok-push.ensures.items ∙ ap (λ (l : Label). made ++ l ∷ []) c.in_ok-next.ensures) c.loop-label.invariant

pub returns : goal.returns
returns c =
    all-made c.args.labels.now c.loop-label.label-index (label_of (unchecked_view c.args.problem.now)) c.loop-label-test.false c.loop-label.stated.items _ c.loop-label.invariant
