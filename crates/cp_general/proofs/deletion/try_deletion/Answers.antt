use Rattle.std.proofs.Common.{rules, ◌≡◌}
use Rattle.std.specs.Bool.{then_some}
use Rattle.cp_lists.proofs.Collected.{if_mapped}
use Rattle.cp_model.proofs.CarriedParts.{not_both}
use Rattle.cp_general.proofs.Deleted.{deleted_alike}
use Rattle.cp_general.proofs.FitTests.{some_if, none_if}
use Rattle.cp_general.proofs.deletion.try_deletion.Goals as goal

pub returns-then-branch-clause-none : goal.returns-then-branch-clause-none
returns-then-branch-clause-none c = c.in_ok-is_needed.ensures c.if-branch.true

pub returns-clause-some : goal.returns-clause-some
returns-clause-some c =
    if_mapped c.is_fit.result c.map.result (λ fit found tests k.
    let told : found ≡ then_some fit c.in_ok-left.left = search rules in
    some_if fit _ found _ told (λ e. record { deletes = c.in_ok-left.ensures.deletes; fit = tests.0 e })) c.is_fit.ensures c.map.ensures.cases

pub returns-clause-none : goal.returns-clause-none
returns-clause-none c =
    if_mapped c.is_fit.result c.map.result (λ fit found tests k.
    let told : found ≡ then_some fit c.in_ok-left.left = search rules in
    none_if fit _ found _ told
    (λ e h d f. not_both e (tests.1 (deleted_alike c.args.strand c.args.k.now h c.in_ok-left.left c.is_sound.ensures.skeleton.no_cycle d c.in_ok-left.ensures.deletes f)))) c.is_fit.ensures c.map.ensures.cases

pub returns-clause-variables : goal.returns-clause-variables
returns-clause-variables c =
    if_mapped c.is_fit.result c.map.result (λ fit found tests k.
    let told : found ≡ then_some fit c.in_ok-left.left = search rules in
    some_if fit _ found _ told (λ _. c.in_ok-left.ensures.variables)) c.is_fit.ensures c.map.ensures.cases
