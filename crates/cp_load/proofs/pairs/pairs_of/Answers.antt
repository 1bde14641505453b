use Rattle.std.proofs.Common.{sym, ap, ◌∙◌, ◌++◌}
use Rattle.cp_language.specs.Problems.{pairs_in}
use Rattle.cp_load.proofs.OwnParts.{pairs-taken, pairs-left}
use Rattle.cp_load.proofs.pairs.pairs_of.Goals as goal
use Rattle.cp_load.proofs.pairs.pairs_of.Goals.{then-is_precedes+in_ok-add_pairs, else-is_precedes}

pub loop-item-preserved : goal.loop-item-preserved
loop-item-preserved c =
    let l = c.loop-item in
    let before = l.pairs.items in
    let after = c.if-is_precedes.pairs.items in
    elim c.if-is_precedes.branch [
      | then-is_precedes+in_ok-add_pairs w ↦
          pairs-taken c.args.body.now l.item-index c.item-item.result c.loop-item-test.true c.item-item.is before after _ l.invariant
          (sym w.if-is_precedes.true ∙ c.is_precedes.ensures)
          (ap (λ v. v.items) w.pairs-is ∙ w.in_ok-add_pairs.ensures ∙ ap (λ fs. before ++ pairs_in fs) w.items_behind.ensures)
      | else-is_precedes w ↦
          pairs-left c.args.body.now l.item-index c.item-item.result c.loop-item-test.true c.item-item.is before after _ l.invariant
          (sym w.if-is_precedes.false ∙ c.is_precedes.ensures) (ap (λ v. v.items) w.pairs-is)
    ]
