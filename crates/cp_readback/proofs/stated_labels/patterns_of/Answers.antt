use Rattle.std.proofs.Common.{◌++◌, ◌∷◌, [], ap, ◌∙◌}
use Rattle.cp_model.specs.Tree.{Pattern}
use Rattle.cp_report.specs.Spelled.{pattern_misfits, pattern_of}
use Rattle.cp_spelled.proofs.Declared.{each-made, all-made}
use Rattle.cp_items.proofs.EachAsked.{each-none}
use Rattle.cp_readback.proofs.stated_labels.patterns_of.Goals as goal

pub pattern_stated-requires : goal.pattern_stated-requires
pattern_stated-requires c =
    (each-none (pattern_misfits c.args.variables.now) c.args.items.now c.loop-item.item-index c.item-item.result c.loop-item-test.true c.item-item.is c.loop-item.invariant.1).0

pub loop-item-preserved : goal.loop-item-preserved
loop-item-preserved c =
    let ds = c.args.variables.now in
    let patterns = c.loop-item.patterns.items in (
      each-made c.args.items.now c.loop-item.item-index (pattern_of ds) c.item-item.result c.loop-item-test.true c.item-item.is patterns c.push.new.self.items _
          (c.in_ok-push.ensures.items ∙ ap (λ (p : Pattern). patterns ++ p ∷ []) c.in_ok-pattern.ensures) c.loop-item.invariant.0,
      (each-none (pattern_misfits ds) c.args.items.now c.loop-item.item-index c.item-item.result c.loop-item-test.true c.item-item.is c.loop-item.invariant.1).1,
    )

pub returns : goal.returns
returns c =
    all-made c.args.items.now c.loop-item.item-index (pattern_of c.args.variables.now) c.loop-item-test.false c.loop-item.patterns.items _ c.loop-item.invariant.0
