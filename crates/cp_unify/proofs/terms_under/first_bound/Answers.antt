use Rattle.std.proofs.Common.{Some, ap, sym, ◌∙◌}
use Rattle.cp_model.proofs.CarriedParts.{not_both}
use Rattle.cp_unify.proofs.Looked.{variable_is_term, yet_to_find, found_here, found_exactly, found_later, found_nowhere}
use Rattle.cp_unify.proofs.terms_under.first_bound.Goals as goal

pub loop-binding-init : goal.loop-binding-init
loop-binding-init c = yet_to_find _ _

pub returns-then-binds : goal.returns-then-binds
returns-then-binds c = record {
  applied = found_here _ _ _ _ c.loop-binding.invariant c.loop-binding-test.true c.binding-item.is c.term.ensures.sort (c.binds.ensures.0 c.if-binds.true) ∙ sym c.term.ensures.term;
  exact = ap Some c.term.ensures.term ∙ sym (found_exactly _ _ _ _ c.loop-binding.invariant c.loop-binding-test.true c.binding-item.is (c.binds.ensures.0 c.if-binds.true));
}

pub loop-binding-preserved : goal.loop-binding-preserved
loop-binding-preserved c =
    found_later _ _ _ _ (variable_is_term c.args.sort c.args.variable) c.loop-binding.invariant c.loop-binding-test.true c.binding-item.is
    (λ e. not_both c.if-binds.false (c.binds.ensures.1 e))

pub returns : goal.returns
returns c =
    let h = found_nowhere _ _ _ c.loop-binding.invariant c.loop-binding-test.false in
    record { applied = h.0; exact = sym h.1 }
