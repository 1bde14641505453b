use Rattle.std.proofs.Common.{refl}
use Rattle.cp_model.proofs.CarriedParts.{not_both}
use Rattle.cp_normal.specs.MisplacedValues.{IsOtherMisplaced}
use Rattle.cp_normal.proofs.MisplacedOriginations.{none_next, none_at_all}
use Rattle.cp_normal.proofs.misplaced_values.is_alone.Goals as goal

pub returns-then-is_other_misplaced : goal.returns-then-is_other_misplaced
returns-then-is_other_misplaced c = λ r. absurd (not_both refl r)

pub loop-unique-preserved : goal.loop-unique-preserved
loop-unique-preserved c =
    none_next (IsOtherMisplaced c.args.k.now c.args.occurrence.now.node c.args.value.now) c.args.uniques.now c.loop-unique.unique-index c.unique-item.result _ c.loop-unique-test.true c.unique-item.is
    (λ s. not_both c.if-is_other_misplaced.false (c.is_other_misplaced.ensures.1 s)) c.loop-unique.invariant

pub returns : goal.returns
returns c = λ r. none_at_all (IsOtherMisplaced c.args.k.now c.args.occurrence.now.node c.args.value.now) c.args.uniques.now c.loop-unique.unique-index c.loop-unique-test.false c.loop-unique.invariant
