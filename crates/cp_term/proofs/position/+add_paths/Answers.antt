use Rattle.std.proofs.Common.{◌≡◌, ◌++◌, [], ◌∷◌, sym, ap, ◌∙◌, arith, take}
use Rattle.cp_model.specs.Term.{pair_term, enc_term}
use Rattle.cp_term.specs.Keys.{key_of}
use Rattle.cp_term.specs.Layer.{term_of_node}
use Rattle.cp_model.specs.declared.step.Step.TheVariants.{Right}
use Rattle.cp_term.proofs.Behind.{first_kept, turned, after_pair, after_encryption}
use Rattle.cp_term.proofs.position.+add_paths.Goals as goal

pub loop-here-preserved-in-Pair : goal.loop-here-preserved-in-Pair
loop-here-preserved-in-Pair g t c =
    let e : c.loop-here.rest.now ≡ pair_term c.in-Pair.left c.in-Pair.right = sym c.node.ensures.view ∙ ap term_of_node c.in-Pair.is in
    let right : c.push-in-Pair.new.self ≡ c.loop-here.here ++ (Right ∷ []) =
    turned _ _ _ _ _ _ c.in_ok-push-in-Pair.ensures.ok c.in_ok-add_paths-in-Pair.ensures.back c.len-level.ensures c.truncate.ensures c.in_ok-push-in-Pair-2.ensures.ok in (
      grind arith,
      ap (λ p. take c.len-start.result p) right ∙ first_kept _ _ _ _ c.len-start.ensures c.loop-here.invariant.1,
      after_pair (g.T.TermTest.passing c.args.test.now) _ _ _ _ _ c.loop-here.invariant.2 c.in_ok-add_here.ensures _ _ _ _ _ e
          c.in_ok-push-in-Pair.ensures.ok right c.in_ok-add_paths-in-Pair.ensures.added,
    )

pub loop-here-preserved : goal.loop-here-preserved
loop-here-preserved g t c =
    let e : c.loop-here.rest.now ≡ enc_term c.in-Encryption.body (key_of c.in-Encryption.field-1) = sym c.node.ensures.view ∙ ap term_of_node c.in-Encryption.is in (
      grind arith,
      ap (λ p. take c.len-start.result p) c.in_ok-push-in-Encryption.ensures.ok ∙ first_kept _ _ _ _ c.len-start.ensures c.loop-here.invariant.1,
      after_encryption (g.T.TermTest.passing c.args.test.now) _ _ _ _ _ c.loop-here.invariant.2 c.in_ok-add_here.ensures _ _ _ e
          c.in_ok-push-in-Encryption.ensures.ok,
    )
