use Rattle.std.proofs.Common.{refl, arith, below_more}
use Rattle.cp_model.specs.Homomorphism.{strand_in}
use Rattle.cp_model.proofs.CarriedParts.{not_both}
use Rattle.cp_hom.proofs.Counterparts.{apart_all, one_meets}
use Rattle.cp_hom.proofs.kept_order.keeps_apart.Goals as goal

pub returns-then-meets_earlier : goal.returns-then-meets_earlier
returns-then-meets_earlier c = (
  λ r. absurd (not_both refl r),
  λ apart. absurd (one_meets c.args.strands.now (strand_in c.args.mapping.now.strands.items) c.loop-strand.strand (c.meets_earlier.ensures.0 c.if-meets_earlier.true) apart),
)

pub loop-strand-preserved : goal.loop-strand-preserved
loop-strand-preserved c = λ s l m. below_more _ _ c.loop-strand.invariant (λ h. not_both c.if-meets_earlier.false (c.meets_earlier.ensures.1 h)) s l m

pub returns : goal.returns
returns c = (
  λ _. apart_all c.args.strands.now (strand_in c.args.mapping.now.strands.items)
      (λ s l. c.loop-strand.invariant s (let h = c.loop-strand-test.false in omega (arith, l, h))),
  λ _. refl,
)
