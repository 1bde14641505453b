use Rattle.std.proofs.Common.{◌≡◌, refl, sym, ap, ◌∙◌, arith}
use Rattle.cp_model.specs.Term.{pair_term, enc_term}
use Rattle.cp_term.specs.Layer.{term_of_node}
use Rattle.cp_model.proofs.CarriedParts.{not_both}
use Rattle.cp_term.proofs.CarriedTerms.{same_carries, left_carries, pair_rest, plaintext_rest}
use Rattle.cp_term.proofs.position.+carries.Goals as goal

pub returns-then-same : goal.returns-then-same
returns-then-same t c =
    (λ _. same_carries _ _ _ (c.same.ensures.0 c.if-same.true) c.loop-rest.invariant.1, λ _. refl)

pub returns-then-carries : goal.returns-then-carries
returns-then-carries t c =
    (λ _. left_carries _ _ _ _ _ (sym c.node.ensures.view ∙ ap term_of_node c.in-Pair.is) (c.carries.ensures.0 c.if-carries.true) c.loop-rest.invariant.1, λ _. refl)

pub loop-rest-preserved-in-Pair : goal.loop-rest-preserved-in-Pair
loop-rest-preserved-in-Pair t c =
    let e : c.loop-rest.rest.now ≡ pair_term c.in-Pair.left c.in-Pair.right = sym c.node.ensures.view ∙ ap term_of_node c.in-Pair.is in
    let h = pair_rest c.args.whole.now _ c.args.part.now _ _ e
    (λ same. not_both c.if-same.false (c.same.ensures.1 same)) (λ l. not_both c.if-carries.false (c.carries.ensures.1 l))
    c.loop-rest.invariant.1 c.loop-rest.invariant.2 in
    (grind arith, h.0, h.1)

pub loop-rest-preserved : goal.loop-rest-preserved
loop-rest-preserved t c =
    let e : c.loop-rest.rest.now ≡ enc_term c.in-Encryption.body _ = sym c.node.ensures.view ∙ ap term_of_node c.in-Encryption.is in
    let h = plaintext_rest c.args.whole.now _ c.args.part.now _ _ e
    (λ same. not_both c.if-same.false (c.same.ensures.1 same)) c.loop-rest.invariant.1 c.loop-rest.invariant.2 in
    (grind arith, h.0, h.1)
