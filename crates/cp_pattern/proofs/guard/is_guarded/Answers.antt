use Rattle.std.proofs.Common.{refl, ap, ◌∙◌}
use Rattle.cp_theory.specs.Critical.{used_variables}
use Rattle.cp_theory.specs.Guards.{Guards}
use Rattle.cp_model.proofs.CarriedParts.{not_both}
use Rattle.cp_model.specs.Strand.{variables_of_trace}
use Rattle.cp_pattern.proofs.AllWithin.{within_tested}
use Rattle.cp_pattern.proofs.GuardParts.{all_of_guards, guards_by}
use Rattle.std.proofs.lemmas.Result.{IfOk-weaker}
use Rattle.cp_pattern.proofs.guard.is_guarded.Goals as goal

pub returns-then-not-all_within : goal.returns-then-not-all_within
returns-then-not-all_within c =
    let k = c.args.k.now in
    let tested = within_tested (variables_of_trace c.deref.result.now) (used_variables k) c.args.critical.now c.args.critical.now c.all_within.result c.all_within.ensures
    (ap variables_of_trace c.deref.ensures.value ∙ c.in_ok-used.ensures) refl in (
      λ e. absurd (not_both refl e),
      λ (g : Guards c.args.patterns.now k c.args.node c.args.critical.now). absurd (not_both c.if-not-all_within.true (tested.1 g.used_by_critical)),
    )

pub returns-then-not-all_may_guard : goal.returns-then-not-all_may_guard
returns-then-not-all_may_guard c =
    let k = c.args.k.now in
    let all = ap variables_of_trace c.deref-2.ensures.value ∙ c.in_ok-used.ensures in (
      λ e. absurd (not_both refl e),
      λ (g : Guards c.args.patterns.now k c.args.node c.args.critical.now). absurd (not_both c.if-not-all_may_guard.true (c.all_may_guard.ensures.1 (all_of_guards c.args.patterns.now k c.args.node c.args.critical.now _ all g))),
    )

pub returns : goal.returns
returns c =
    let k = c.args.k.now in
    let tested = within_tested (variables_of_trace c.deref.result.now) (used_variables k) c.args.critical.now c.args.critical.now c.all_within.result c.all_within.ensures
    (ap variables_of_trace c.deref.ensures.value ∙ c.in_ok-used.ensures) refl in
    let all = ap variables_of_trace c.deref-2.ensures.value ∙ c.in_ok-used.ensures in
    IfOk-weaker c.send_inside_alone.result _ _
    (λ answer h. (
      λ e. guards_by c.args.patterns.now k c.args.node c.args.critical.now _ all (c.all_may_guard.ensures.0 c.if-not-all_may_guard.false) (tested.0 c.if-not-all_within.false) (h.0 e),
      λ (g : Guards c.args.patterns.now k c.args.node c.args.critical.now). h.1 g.inside,
    ))
    c.send_inside_alone.ensures
