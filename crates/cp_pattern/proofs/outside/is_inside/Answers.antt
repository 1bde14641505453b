use Rattle.std.proofs.Common.{refl, sym, ap, ◌∙◌, slice_index_or}
use Rattle.std.specs.Option.{option_copied}
use Rattle.std.proofs.lemmas.List.{get_or_default}
use Rattle.cp_model.proofs.CarriedParts.{not_both}
use Rattle.cp_model.specs.declared.step.Step.{Step}
use Rattle.cp_model.specs.declared.step.Step.TheVariants.{Left}
use Rattle.cp_unify.specs.Bindings.{as_substitution}
use Rattle.cp_pattern.proofs.Inside.{leads_nowhere, inside_here, one_step_in, path_ends}
use Rattle.cp_pattern.proofs.outside.is_inside.Goals as goal

pub loop-step-init : goal.loop-step-init
loop-step-init c = (λ k. k, λ k. k)

pub returns-in_default : goal.returns-in_default
returns-in_default c =
    let step : Step = slice_index_or c.args.path.now c.loop-step.step-index Left in (
      λ e. absurd (not_both refl e),
      λ k. absurd (leads_nowhere c.args.patterns.now (as_substitution c.args.from.now) c.args.term.now c.args.path.now c.loop-step.rest.now c.loop-step.step-index c.loop-step.invariant step c.loop-step-test.true
          (get_or_default c.args.path.now c.loop-step.step-index Left step c.loop-step-test.true) (sym c.part_of.ensures ∙ ap option_copied c.in_default.is) k),
    )

pub returns-then-branch : goal.returns-then-branch
returns-then-branch c =
    let step : Step = slice_index_or c.args.path.now c.loop-step.step-index Left in (
      λ e. inside_here c.args.patterns.now (as_substitution c.args.from.now) c.args.term.now c.args.path.now c.loop-step.rest.now c.loop-step.step-index c.loop-step.invariant step c.loop-step-test.true
          (get_or_default c.args.path.now c.loop-step.step-index Left step c.loop-step-test.true) _ (sym c.part_of.ensures ∙ ap option_copied c.in-Some.is) _ c.in_ok-enters.ensures c.if-branch.true,
      λ k. refl,
    )

pub loop-step-preserved : goal.loop-step-preserved
loop-step-preserved c =
    let step : Step = slice_index_or c.args.path.now c.loop-step.step-index Left in
    one_step_in c.args.patterns.now (as_substitution c.args.from.now) c.args.term.now c.args.path.now c.loop-step.rest.now c.loop-step.step-index c.loop-step.invariant step c.loop-step-test.true
    (get_or_default c.args.path.now c.loop-step.step-index Left step c.loop-step-test.true) _ (sym c.part_of.ensures ∙ ap option_copied c.in-Some.is) _ c.in_ok-enters.ensures c.if-branch.false

pub returns : goal.returns
returns c = (
  λ e. absurd (not_both refl e),
  λ k. absurd (path_ends c.args.patterns.now (as_substitution c.args.from.now) c.args.term.now c.args.path.now c.loop-step.rest.now c.loop-step.step-index c.loop-step.invariant c.loop-step-test.false k),
)
