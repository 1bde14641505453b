use Rattle.std.proofs.Common.{◌||◌, ℕ}
use Rattle.std.specs.HashSet.{contains}
use Rattle.cp_sexpr.specs.View.{view}
use Rattle.cp_report.specs.Labels.{stated_children}
use Rattle.cp_readback.specs.Families.{is_same_child, names_child}
use Rattle.cp_readback.proofs.Relations.{child-put, child-passed, children-all}
use Rattle.cp_readback.proofs.parents.add_children.Goals as goal

pub loop-item-preserved-in_default : goal.loop-item-preserved-in_default
loop-item-preserved-in_default c =
    child-passed c.entries_under-item-items.result.now c.loop-item.item-index c.args.label _ c.loop-item.children c.item-item.result c.loop-item-test.true c.item-item.is c.in_default.ensures c.loop-item.invariant

pub loop-item-preserved : goal.loop-item-preserved
loop-item-preserved c =
    child-put c.entries_under-item-items.result.now c.loop-item.item-index c.args.label _ c.loop-item.children c.item-item.result c.loop-item-test.true c.item-item.is
    c.in-Some.child c.in-Some.ensures c.insert.new.self c.in_ok-insert.ensures.updates.0 c.loop-item.invariant

pub returns : goal.returns
returns c =
    children-all c.entries_under-item-items.result.now c.loop-item.item-index c.args.label
    (λ (q : ℕ × ℕ). names_child c.args.label (stated_children (view c.args.form.now)) q || contains is_same_child c.args.children.now q)
    c.loop-item.children c.loop-item-test.false c.loop-item.invariant
