use Rattle.cp_app.proofs.Trees.{incomplete, complete_next, all_complete}
use Rattle.cp_app.proofs.analysis.are_complete.Goals as goal

pub returns-then-not-is_complete : goal.returns-then-not-is_complete
returns-then-not-is_complete c =
    incomplete c.args.trees.now c.loop-tree.tree-index c.tree-item.result c.is_complete.result c.loop-tree-test.true c.tree-item.is c.is_complete.ensures c.if-not-is_complete.true

pub loop-tree-preserved : goal.loop-tree-preserved
loop-tree-preserved c =
    complete_next c.args.trees.now c.loop-tree.tree-index c.tree-item.result c.is_complete.result c.loop-tree-test.true c.tree-item.is c.is_complete.ensures c.if-not-is_complete.false c.loop-tree.invariant

pub returns : goal.returns
returns c = all_complete c.args.trees.now c.loop-tree.tree-index c.loop-tree-test.false c.loop-tree.invariant
