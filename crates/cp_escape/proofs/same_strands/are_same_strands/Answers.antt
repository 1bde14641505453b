use Rattle.std.proofs.Common.{◌<◌, length, refl, subst}
use Rattle.cp_model.proofs.CarriedParts.{not_both}
use Rattle.cp_escape.proofs.SameStrandLists.{same_count, same_next, same_there, same_past}
use Rattle.cp_escape.proofs.same_strands.are_same_strands.Goals as goal

pub returns-then-a-b : goal.returns-then-a-b
returns-then-a-b c = (λ e. absurd (not_both refl e), λ same. absurd (c.if-a-b.true (same_count c.args.a.now c.args.b.now same)))

pub returns-then-not-branch : goal.returns-then-not-branch
returns-then-not-branch c =
    let below : c.loop-index.index < length c.args.b.now = subst (λ n. c.loop-index.index < n) c.if-a-b.false c.loop-index-test.true in (
      λ e. absurd (not_both refl e),
      λ same. absurd (not_both c.if-not-branch.true (c.in_ok-is_same_strand.ensures.1
          (same_there c.args.a.now c.args.b.now c.loop-index.index c.index-a-index.result c.index-b-index.result c.loop-index-test.true below c.index-a-index.is c.index-b-index.is same))),
    )

pub loop-index-preserved : goal.loop-index-preserved
loop-index-preserved c =
    let below : c.loop-index.index < length c.args.b.now = subst (λ n. c.loop-index.index < n) c.if-a-b.false c.loop-index-test.true in
    same_next c.args.a.now c.args.b.now c.loop-index.index c.index-a-index.result c.index-b-index.result c.loop-index-test.true below c.index-a-index.is c.index-b-index.is c.loop-index.invariant
    (c.in_ok-is_same_strand.ensures.0 c.if-not-branch.false)

pub returns : goal.returns
returns c = (λ _. same_past c.args.a.now c.args.b.now c.loop-index.index c.loop-index-test.false c.if-a-b.false c.loop-index.invariant, λ _. refl)
