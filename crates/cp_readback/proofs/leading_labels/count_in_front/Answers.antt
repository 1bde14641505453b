use Rattle.std.proofs.Common.{map, sym, ◌∙◌, arith}
use Rattle.cp_report.specs.Heads.{has_head}
use Rattle.cp_readback.proofs.InFront.{one-leads, none-leads, all-lead}
use Rattle.cp_readback.proofs.leading_labels.count_in_front.Goals as goal

pub returns-then-not-has_one_of : goal.returns-then-not-has_one_of
returns-then-not-has_one_of c =
    none-leads (has_head (map (λ w. w.now) c.args.heads.now)) c.args.forms.now c.loop-place.place c.index-forms-place.result c.loop-place-test.true c.index-forms-place.is (sym c.if-not-has_one_of.true ∙ c.has_one_of.ensures) _ c.loop-place.invariant.0

pub loop-place-preserved : goal.loop-place-preserved
loop-place-preserved c = (
  one-leads (has_head (map (λ w. w.now) c.args.heads.now)) c.args.forms.now c.loop-place.place c.index-forms-place.result c.loop-place-test.true c.index-forms-place.is (sym c.if-not-has_one_of.false ∙ c.has_one_of.ensures) _ c.loop-place.invariant.0,
  omega (arith, c.loop-place-test.true),
)

pub returns : goal.returns
returns c = all-lead (has_head (map (λ w. w.now) c.args.heads.now)) c.args.forms.now c.loop-place.place c.loop-place-test.false c.loop-place.invariant.1 _ c.loop-place.invariant.0
