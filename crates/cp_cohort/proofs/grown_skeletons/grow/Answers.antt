use Rattle.std.proofs.Common.{◌≡◌, ◌<◌, ◌≤◌, ◌++◌, ℕ, length, ap, ◌∙◌, arith}
use Rattle.std.proofs.lemmas.Result.{on_ok_weaker}
use Rattle.cp_model.specs.Strand.{Role}
use Rattle.cp_model.specs.PrefixVariables.{added_variables}
use Rattle.cp_theory.specs.Fresh.{fresh_terms}
use Rattle.cp_cohort.specs.CoveringChildren.{declarations_among}
use Rattle.cp_cohort.proofs.FitValues.{high_enough, can_extend, grown_by}
use Rattle.cp_cohort.proofs.grown_skeletons.grow.Goals as goal

pub returns-then-height-before : goal.returns-then-height-before
returns-then-height-before c =
    let lower : c.args.height ≤ c.args.instance.now.height = omega (arith, c.if-height-before.true, c.height-before.ensures) in
    high_enough c.args.k.now c.args.height c.args.strand c.args.instance.now lower

pub extend-requires : goal.extend-requires
extend-requires c =
    let i = c.args.instance.now in
    let role_is : c.deref.result.now ≡ i.role = c.deref.ensures ∙ c.role.ensures in
    let are : c.deref-2.result.now ≡ fresh_terms (length c.args.k.now.variables) (added_variables i.role i.height c.args.height) =
    c.deref-2.ensures.value ∙ c.in_ok-values.ensures.values ∙ ap (λ (r : Role). fresh_terms (length c.args.k.now.variables) (added_variables r c.height-before.result c.args.height)) role_is
    ∙ ap (λ (m : ℕ). fresh_terms (length c.args.k.now.variables) (added_variables i.role m c.args.height)) c.height-before.ensures in
    can_extend c.args.k.now c.args.height c.declare_added.new.k c.in_ok-values.ensures.rest c.args.strand i c.requires.there c.deref-2.result.now are (omega (arith, c.if-height-before.false, c.height-before.ensures)) c.requires.reached

pub returns : goal.returns
returns c =
    let i = c.args.instance.now in
    let role_is : c.deref.result.now ≡ i.role = c.deref.ensures ∙ c.role.ensures in
    let are : c.deref-2.result.now ≡ fresh_terms (length c.args.k.now.variables) (added_variables i.role i.height c.args.height) =
    c.deref-2.ensures.value ∙ c.in_ok-values.ensures.values ∙ ap (λ (r : Role). fresh_terms (length c.args.k.now.variables) (added_variables r c.height-before.result c.args.height)) role_is
    ∙ ap (λ (m : ℕ). fresh_terms (length c.args.k.now.variables) (added_variables i.role m c.args.height)) c.height-before.ensures in
    let more : c.declare_added.new.k.variables ≡ c.args.k.now.variables ++ declarations_among i.role (added_variables i.role i.height c.args.height) =
    c.in_ok-values.ensures.declared ∙ ap (λ (r : Role). c.args.k.now.variables ++ declarations_among r (added_variables r c.height-before.result c.args.height)) role_is
    ∙ ap (λ (m : ℕ). c.args.k.now.variables ++ declarations_among i.role (added_variables i.role m c.args.height)) c.height-before.ensures in
    let higher : i.height < c.args.height = omega (arith, c.if-height-before.false, c.height-before.ensures) in
    on_ok_weaker c.extend.result
    (λ extends j is. grown_by c.args.k.now c.args.height c.declare_added.new.k c.in_ok-values.ensures.rest c.args.strand i c.requires.there c.deref-2.result.now are (omega (arith, higher)) higher j is c.extend.new.self more extends c.extend.ensures.variables)
    c.extend.ensures.changed
