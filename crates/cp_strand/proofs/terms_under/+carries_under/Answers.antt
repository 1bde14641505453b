use Rattle.std.proofs.Common.{refl, ap, arith}
use Rattle.cp_model.specs.Term.{apply_to}
use Rattle.cp_model.specs.Homomorphism.{substitution_by}
use Rattle.cp_model.proofs.CarriedParts.{not_both}
use Rattle.cp_term.proofs.CarriedTerms.{same_carries, left_carries, pair_rest, plaintext_rest}
use Rattle.cp_strand.proofs.terms_under.+carries_under.Goals as goal

pub returns-then-same_under : goal.returns-then-same_under
returns-then-same_under t c =
    (λ _. same_carries _ _ _ (c.same_under.ensures.0 c.if-same_under.true) c.loop-rest.invariant.1, λ _. refl)

pub returns-then-carries_under : goal.returns-then-carries_under
returns-then-carries_under t c =
    (λ _. left_carries _ _ _ _ _ (ap (apply_to (substitution_by c.args.values.now)) c.in-Pair.ensures) (c.carries_under.ensures.0 c.if-carries_under.true) c.loop-rest.invariant.1, λ _. refl)

pub loop-rest-preserved-in-Pair : goal.loop-rest-preserved-in-Pair
loop-rest-preserved-in-Pair t c =
    let f = apply_to (substitution_by c.args.values.now) in
    let h = pair_rest (f c.args.whole.now) _ c.args.part.now _ _ (ap f c.in-Pair.ensures)
    (λ same. not_both c.if-same_under.false (c.same_under.ensures.1 same)) (λ l. not_both c.if-carries_under.false (c.carries_under.ensures.1 l))
    c.loop-rest.invariant.1 c.loop-rest.invariant.2 in
    (grind arith, h.0, h.1)

pub loop-rest-preserved : goal.loop-rest-preserved
loop-rest-preserved t c =
    let f = apply_to (substitution_by c.args.values.now) in
    let h = plaintext_rest (f c.args.whole.now) _ c.args.part.now _ _ (ap f c.in-Encryption.ensures.2)
    (λ same. not_both c.if-same_under.false (c.same_under.ensures.1 same)) c.loop-rest.invariant.1 c.loop-rest.invariant.2 in
    (grind arith, h.0, h.1)
