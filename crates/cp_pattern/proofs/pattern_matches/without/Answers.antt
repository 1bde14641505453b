use Rattle.std.proofs.Common.{◌∷◌, sym, ap, ap₂, ◌∙◌}
use Rattle.cp_unify.specs.Bindings.{Binding}
use Rattle.cp_pattern.proofs.AgreedBindings.{none_kept, left_out, kept_too, all_kept}
use Rattle.cp_pattern.proofs.pattern_matches.without.Goals as goal

pub loop-binding-init : goal.loop-binding-init
loop-binding-init c f = let h = none_kept c.args.locals.now c.args.bindings.now f in rw c.new-kept.ensures h

pub loop-binding-preserved-then-is_of_local : goal.loop-binding-preserved-then-is_of_local
loop-binding-preserved-then-is_of_local c =
    left_out c.args.locals.now c.args.bindings.now c.loop-binding.kept c.loop-binding.binding-index c.binding-item.result c.loop-binding.invariant c.loop-binding-test.true c.binding-item.is
    (sym c.is_of_local.ensures ∙ c.if-is_of_local.true)

pub loop-binding-preserved : goal.loop-binding-preserved
loop-binding-preserved c =
    kept_too c.args.locals.now c.args.bindings.now c.loop-binding.kept c.loop-binding.binding-index c.binding-item.result c.loop-binding.invariant c.loop-binding-test.true c.binding-item.is
    (sym c.is_of_local.ensures ∙ c.if-is_of_local.false)
    c.in_ok-kept.kept
    (c.in_ok-kept.ensures ∙ ap (λ (b : Binding). b ∷ c.loop-binding.kept) (c.new.ensures ∙ ap₂ (λ x t. record { variable = x; term = t }) c.variable.ensures (c.in_ok-term.ensures ∙ c.term.ensures.term)))

pub returns : goal.returns
returns c = all_kept c.args.locals.now c.args.bindings.now c.loop-binding.kept c.loop-binding.binding-index c.loop-binding-test.false c.loop-binding.invariant
