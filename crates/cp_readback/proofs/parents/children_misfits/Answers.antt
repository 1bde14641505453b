use Rattle.std.proofs.Common.{◌∷◌}
use Rattle.std.specs.Prelude.{option_map}
use Rattle.cp_sexpr.specs.View.{view}
use Rattle.cp_language.specs.Problems.{number_of}
use Rattle.cp_readback.specs.Families.{labels_of}
use Rattle.cp_readback.proofs.Relations.{with_number, child-taken, children-done}
use Rattle.cp_readback.proofs.parents.children_misfits.Goals as goal

pub loop-item-preserved : goal.loop-item-preserved
loop-item-preserved c =
    let inv = c.loop-item.invariant in
    let number = number_of (view c.item-item.result) in (
      number ∷ inv.0,
      with_number inv.0 c.number_of.result number c.loop-item.before c.insert.new.self c.number_of.ensures inv.1 c.in_ok-insert.ensures.updates.0,
      child-taken c.args.items.now c.loop-item.item-index (option_map (λ f. labels_of f.now) c.args.tree) c.args.label c.item-item.result c.loop-item-test.true c.item-item.is
          inv.0 c.loop-item.before inv.1 c.loop-item.first c.child_misfits.new.first _ c.child_misfits.ensures inv.2,
    )

pub returns : goal.returns
returns c =
    let inv = c.loop-item.invariant in
    children-done c.args.items.now c.loop-item.item-index (option_map (λ f. labels_of f.now) c.args.tree) c.args.label c.loop-item-test.false inv.0 c.loop-item.first _ inv.2
