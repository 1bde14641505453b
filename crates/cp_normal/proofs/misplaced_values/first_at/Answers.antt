use Rattle.std.proofs.Common.{sym}
use Rattle.cp_normal.specs.MisplacedValues.{OriginatesElsewhere}
use Rattle.cp_model.proofs.CarriedParts.{not_both}
use Rattle.cp_normal.proofs.MisplacedOriginations.{none_next, none_at_all, first_found}
use Rattle.cp_normal.proofs.misplaced_values.first_at.Goals as goal

pub returns-then-originates_elsewhere : goal.returns-then-originates_elsewhere
returns-then-originates_elsewhere c =
    first_found c.args.k.now c.args.occurrence.now.node c.args.uniques.now c.loop-unique.unique-index c.unique-item.result _ _ c.loop-unique-test.true c.unique-item.is
    (c.originates_elsewhere.ensures.0 c.if-originates_elsewhere.true) (sym c.value.ensures) c.loop-unique.invariant

pub loop-unique-preserved : goal.loop-unique-preserved
loop-unique-preserved c =
    none_next (OriginatesElsewhere c.args.k.now c.args.occurrence.now.node) c.args.uniques.now c.loop-unique.unique-index c.unique-item.result _ c.loop-unique-test.true c.unique-item.is
    (λ s. not_both c.if-originates_elsewhere.false (c.originates_elsewhere.ensures.1 s)) c.loop-unique.invariant

pub returns : goal.returns
returns c = none_at_all (OriginatesElsewhere c.args.k.now c.args.occurrence.now.node) c.args.uniques.now c.loop-unique.unique-index c.loop-unique-test.false c.loop-unique.invariant
