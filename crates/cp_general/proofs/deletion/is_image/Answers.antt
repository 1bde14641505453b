use Rattle.std.proofs.Common.{refl, subst}
use Rattle.cp_lists.specs.Lists.{IsIn}
use Rattle.cp_lists.proofs.Members.{item_in, none_left}
use Rattle.cp_model.proofs.CarriedParts.{not_both}
use Rattle.cp_general.proofs.FitTests.{other_next}
use Rattle.cp_general.proofs.deletion.is_image.Goals as goal

pub returns-then-image-strand : goal.returns-then-image-strand
returns-then-image-strand c = (λ _. subst (λ n. IsIn n c.args.strands.now) c.if-image-strand.true (item_in c.args.strands.now c.loop-image.image-index 0 c.loop-image-test.true), λ _. refl)

pub loop-image-preserved : goal.loop-image-preserved
loop-image-preserved c = other_next c.args.strands.now c.loop-image.image-index c.args.strand c.loop-image-test.true c.if-image-strand.false c.loop-image.invariant

pub returns : goal.returns
returns c = (λ e. absurd (not_both refl e), λ m. absurd (none_left c.args.strands.now c.loop-image.image-index c.args.strand c.loop-image-test.false (c.loop-image.invariant m)))
