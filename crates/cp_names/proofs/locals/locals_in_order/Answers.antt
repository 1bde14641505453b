use Rattle.std.proofs.Common.{sym, ap, ◌∙◌, arith}
use Rattle.cp_names.proofs.LocalsFound.{one_found, found_again, no_local, all_found}
use Rattle.cp_names.proofs.locals.locals_in_order.Goals as goal
use Rattle.cp_names.proofs.locals.locals_in_order.Goals.{then-has_variable+then-not-has_variable+in_ok-push, else-has_variable, else-has_variable-via-then-has_variable+else-not-has_variable, else-has_variable-via-else-has_variable}

pub loop-variable-preserved : goal.loop-variable-preserved
loop-variable-preserved c =
    let ls = c.args.locals.now in
    let i = c.loop-variable.variable-index in
    let found = c.loop-variable.found.items in
    elim c.if-has_variable.branch [
      | then-has_variable+then-not-has_variable+in_ok-push w ↦
          one_found ls c.args.variables.now i _ found c.loop-variable.invariant _ c.loop-variable-test.true c.if-has_variable.found.items
          (ap (λ v. v.items) w.found-is ∙ w.in_ok-push.ensures.items)
          (sym c.has_variable.ensures ∙ w.if-has_variable.true)
          w.deref.result.now w.deref.ensures.value (sym w.has_variable-then-has_variable.ensures ∙ w.if-not-has_variable.true)
      | else-has_variable w ↦
          elim w.else-has_variable.branch [
            | else-has_variable-via-then-has_variable+else-not-has_variable w' ↦
                found_again ls c.args.variables.now i _ found c.loop-variable.invariant _ c.loop-variable-test.true c.if-has_variable.found.items
                (ap (λ v. v.items) w.found-is)
                (sym c.has_variable.ensures ∙ w'.if-has_variable.true)
                w'.deref.result.now w'.deref.ensures.value (sym w'.has_variable-then-has_variable.ensures ∙ w'.if-not-has_variable.false)
            | else-has_variable-via-else-has_variable w' ↦
                no_local ls c.args.variables.now i _ found c.loop-variable.invariant _ c.loop-variable-test.true c.if-has_variable.found.items
                (ap (λ v. v.items) w.found-is)
                (sym c.has_variable.ensures ∙ w'.if-has_variable.false)
          ]
    ]

pub returns : goal.returns
returns c = all_found c.args.locals.now c.args.variables.now c.loop-variable.variable-index _ c.loop-variable.found.items c.loop-variable.invariant (omega (arith, c.loop-variable-test.false))
