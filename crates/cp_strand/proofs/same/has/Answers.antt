use Rattle.std.proofs.Common.{◌≡◌, true, false, refl}
use Rattle.cp_strand.proofs.Items.{item-found, item-next, item-none}
use Rattle.cp_strand.proofs.same.has.Goals as goal

pub returns-then-is_same : goal.returns-then-is_same
returns-then-is_same g c =
    ((λ h. item-found c.args.item.now c.args.items.now c.loop-other.other-index c.other-item.result c.loop-other-test.true c.other-item.is (c.is_same.ensures.0 c.if-is_same.true)), (λ p. refl))

pub loop-other-preserved : goal.loop-other-preserved
loop-other-preserved g c =
    item-next c.args.item.now c.args.items.now c.loop-other.other-index c.other-item.result c.loop-other-test.true c.other-item.is
    (λ e. let t : c.is_same.result ≡ true = c.is_same.ensures.1 e in let f : c.is_same.result ≡ false = c.if-is_same.false in absurd (cc)) c.loop-other.invariant

pub returns : goal.returns
returns g c =
    ((λ h. let f : false ≡ true = h in absurd (cc)), (λ p. absurd (item-none c.args.item.now c.args.items.now c.loop-other.other-index c.loop-other-test.false c.loop-other.invariant p)))
