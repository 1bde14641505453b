use Rattle.std.proofs.Common.{[], ◌∷◌, ◌++◌, ◌+◌, length, ap, sym, ◌∙◌}
use Rattle.std.proofs.lemmas.List.{get_or_default}
use Rattle.cp_lists.specs.Lists.{item_at}
use Rattle.cp_lists.proofs.Items.{item_of_read}
use Rattle.cp_skel.proofs.TableAlone.{table_again}
use Rattle.cp_unify.specs.Bindings.{Binding}
use Rattle.cp_unify.proofs.VariablesUnder.{sorted_variable}
use Rattle.cp_pattern.proofs.Opened.{IsDeclaredSoFar, declared_some, next_declared, next_bound}
use Rattle.cp_pattern.proofs.opened_pattern.declare_locals.Goals.{In_ok-variable}
use Rattle.cp_pattern.proofs.opened_pattern.declare_locals.Goals as goal

-- with the variable that was declared one more of the locals has one
one_more : (c : In_ok-variable) → IsDeclaredSoFar c.args.k.now.variables c.args.pattern.now.locals (c.loop-local.local-index + 1) c.declare_for.new.k.variables
one_more c =
    next_declared c.args.k.now.variables c.args.pattern.now.locals c.loop-local.local-index c.loop-local.k.variables c.loop-local.invariant.0 _ (ap (λ xs. item_at xs c.loop-local.local-index) (sym c.locals-local-items.ensures.variables)
    ∙ item_of_read c.locals-local-items.result.now c.loop-local.local-index _ c.loop-local-test.true (get_or_default c.locals-local-items.result.now c.loop-local.local-index _ _ c.loop-local-test.true))
    c.len-count.result (c.len-count.ensures ∙ ap length c.variables.ensures) c.declare_for.new.k.variables c.in_ok-variable.ensures.declared

pub new-requires : goal.new-requires
new-requires c = sorted_variable _ _ _ c.in_ok-image.ensures.plain

pub returns-in_err-image-clause-grown : goal.returns-in_err-image-clause-grown
returns-in_err-image-clause-grown c =
    declared_some c.args.k.now.variables c.args.pattern.now.locals (c.loop-local.local-index + 1) c.declare_for.new.k.variables (one_more (goal.at.returns-in_err-image-clause-grown c).In_ok-variable)

pub returns-in_err-push-clause-grown : goal.returns-in_err-push-clause-grown
returns-in_err-push-clause-grown c =
    declared_some c.args.k.now.variables c.args.pattern.now.locals (c.loop-local.local-index + 1) c.declare_for.new.k.variables (one_more (goal.at.returns-in_err-push-clause-grown c).In_ok-variable)

pub returns-in_err-variable-clause-kept : goal.returns-in_err-variable-clause-kept
returns-in_err-variable-clause-kept c = table_again c.args.k.now c.loop-local.k c.declare_for.new.k c.loop-local.invariant.2 c.declare_for.ensures.kept

pub returns-in_err-image-clause-kept : goal.returns-in_err-image-clause-kept
returns-in_err-image-clause-kept c = table_again c.args.k.now c.loop-local.k c.declare_for.new.k c.loop-local.invariant.2 c.declare_for.ensures.kept

pub returns-in_err-push-clause-kept : goal.returns-in_err-push-clause-kept
returns-in_err-push-clause-kept c = table_again c.args.k.now c.loop-local.k c.declare_for.new.k c.loop-local.invariant.2 c.declare_for.ensures.kept

pub loop-local-preserved : goal.loop-local-preserved
loop-local-preserved c =
    let at = (goal.at.loop-local-preserved c).In_ok-variable in (
      one_more at,
      next_bound (length c.args.k.now.variables) c.args.pattern.now.locals c.loop-local.local-index c.loop-local.bindings.items c.loop-local.invariant.1 _
          (ap (λ xs. item_at xs c.loop-local.local-index) (sym c.locals-local-items.ensures.variables)
          ∙ item_of_read c.locals-local-items.result.now c.loop-local.local-index _ c.loop-local-test.true (get_or_default c.locals-local-items.result.now c.loop-local.local-index _ _ c.loop-local-test.true))
          c.in_ok-variable.variable (c.in_ok-variable.ensures.later ∙ c.loop-local.invariant.0.grown) c.in_ok-image.image c.in_ok-image.ensures.plain c.push.new.self.items
          (c.in_ok-push.ensures.items ∙ ap (λ (b : Binding). c.loop-local.bindings.items ++ (b ∷ [])) c.new.ensures),
      table_again c.args.k.now c.loop-local.k c.declare_for.new.k c.loop-local.invariant.2 c.declare_for.ensures.kept,
    )
