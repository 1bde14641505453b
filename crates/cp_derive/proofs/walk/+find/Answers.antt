use Rattle.std.proofs.Common.{◌≡◌, ◌∙◌, ◌++◌, ◌∷◌, [], ap, sym, subst, take, arith}
use Rattle.cp_model.proofs.CarriedParts.{not_both}
use Rattle.cp_model.specs.declared.step.Step.TheVariants.{Right}
use Rattle.cp_derive.specs.Walk.{WalksTo}
use Rattle.cp_term.proofs.Behind.{first_kept, turned}
use Rattle.cp_derive.proofs.Walks.{found_here, found_left, go_right, pair_derivable, found_some, found_none, plain_form}
use Rattle.cp_derive.proofs.walk.+find.Goals as goal

pub returns-in-Some : goal.returns-in-Some
returns-in-Some t c =
    found_left _ _ _ _ _ c.loop-left.invariant.leads _ _ _ _ _ c.in-Pair.ensures c.in_ok-push-in-Pair.ensures.ok
    (found_some _ _ _ _ _ _ c.in-Some.is c.in_ok-found-in-Pair.ensures)

pub loop-left-preserved : goal.loop-left-preserved
loop-left-preserved t c =
    let none = found_none _ _ _ _ _ c.in_default-2.not-Some c.in_ok-found-in-Pair.ensures in
    let right : c.push-in-Pair.new.self ≡ c.loop-left.here ++ (Right ∷ []) =
    turned _ _ _ _ _ _ c.in_ok-push-in-Pair.ensures.ok none.0 c.len-level.ensures c.truncate.ensures c.in_ok-push-in-Pair-2.ensures.ok in
    record {
      smaller = grind arith;
      kept = ap (λ p. take c.len-start.result p) right ∙ first_kept _ _ _ _ c.len-start.ensures c.loop-left.invariant.kept;
      leads = go_right _ _ _ _ _ c.loop-left.invariant.leads _ _ _ c.in-Pair.ensures none.1 right;
      derivable = pair_derivable _ _ _ _ _ c.in-Pair.ensures c.loop-left.invariant.derivable none.1;
    }

pub returns-then-not-buildable : goal.returns-then-not-buildable
returns-then-not-buildable t c =
    subst (λ term. WalksTo c.args.known.now c.args.whole.now c.args.here.now c.loop-left.here term) (sym c.in_ok-term-in_default.ensures)
    (found_here _ _ _ _ _ c.loop-left.invariant.leads (plain_form _ _ c.form_of.ensures c.in_default.not-Pair) (λ d. not_both c.if-not-buildable.true (c.buildable.ensures.exact.1 d)))
