use Rattle.std.specs.Prelude.{option_map}
use Rattle.cp_load.specs.UncheckedProblems.{unchecked_view}
use Rattle.cp_readback.specs.Families.{labels_of}
use Rattle.cp_readback.proofs.InTree.{label-taken, labels-done}
use Rattle.cp_readback.proofs.trees.labels_misfits.Goals as goal

pub loop-number-preserved : goal.loop-number-preserved
loop-number-preserved c =
    label-taken (unchecked_view c.args.setting.problem.now) (option_map (λ f. labels_of f.now) c.args.setting.tree) c.args.labels.now c.loop-number.number c.index-labels-number.result c.loop-number-test.true c.index-labels-number.is
    c.loop-number.first c.label_misfits.new.first _ c.in_ok-label_misfits.ensures c.loop-number.invariant

pub returns : goal.returns
returns c =
    labels-done (unchecked_view c.args.setting.problem.now) (option_map (λ f. labels_of f.now) c.args.setting.tree) c.args.labels.now c.loop-number.number c.loop-number-test.false c.loop-number.first _ c.loop-number.invariant
