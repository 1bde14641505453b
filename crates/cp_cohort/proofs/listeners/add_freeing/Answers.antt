use Rattle.std.proofs.Common.{ap, ◌∙◌, ◌∷◌, [], subst}
use Rattle.std.proofs.lemmas.Result.{on_ok_weaker}
use Rattle.cp_model.specs.Term.{Term}
use Rattle.std.specs.Prelude.{◌↔◌}
use Rattle.cp_model.specs.Derivable.{DerivableAt}
use Rattle.cp_derive.specs.Given.{IsDerivable}
use Rattle.cp_derive.specs.AtNode.{SkeletonNode}
use Rattle.cp_cohort.specs.GatheredLists.{terms_onto}
use Rattle.cp_cohort.specs.Cohort.{GuardedTest}
use Rattle.cp_cohort.specs.HeardTerms.{FreesOnto}
use Rattle.cp_cohort.proofs.ListenerChildren.{no_encryption, freed_by_body, freed_by_key, freed_by_nothing, asked_at}
use Rattle.cp_cohort.proofs.listeners.add_freeing.Goals as goal

pub returns-in_default : goal.returns-in_default
returns-in_default c =
    let q : GuardedTest = record { skeleton = c.guarded_test.inside.skeleton.now; node = c.guarded_test.inside.node; critical = c.guarded_test.inside.critical.now; patterns = c.guarded_test.inside.patterns.now } in
    subst (λ (z : GuardedTest). FreesOnto z c.args.terms.now.items c.args.terms.now.items) c.guarded_test.view_is
    (freed_by_nothing q c.args.terms.now.items (no_encryption c.shape.result c.guarded_test.inside.critical.now c.shape.ensures c.in_default.not-Encryption))

pub returns-then-buildable : goal.returns-then-buildable
returns-then-buildable c =
    let q : GuardedTest = record { skeleton = c.guarded_test.inside.skeleton.now; node = c.guarded_test.inside.node; critical = c.guarded_test.inside.critical.now; patterns = c.guarded_test.inside.patterns.now } in
    on_ok_weaker c.add_term.result
    (λ e.
    subst (λ (z : GuardedTest). FreesOnto z c.args.terms.now.items c.add_term.new.terms.items) c.guarded_test.view_is
    (freed_by_body q c.in-Encryption.body.now c.in-Encryption.key.now c.in-Encryption.ensures c.buildable.result
    (asked_at q c.known.result.now c.in-Encryption.key.now (subst (λ (x : SkeletonNode). (t : Term) → IsDerivable c.known.result.now t ↔ DerivableAt x.skeleton x.node t) c.guarded_test.invariant.0 c.known.ensures) c.buildable.result c.buildable.ensures.exact) c.args.terms.now.items c.add_term.new.terms.items c.if-buildable.true
    (e ∙ ap (λ (t : Term). terms_onto c.args.terms.now.items (t ∷ [])) c.in_ok-plaintext.ensures)))
    c.add_term.ensures

pub returns : goal.returns
returns c =
    let q : GuardedTest = record { skeleton = c.guarded_test.inside.skeleton.now; node = c.guarded_test.inside.node; critical = c.guarded_test.inside.critical.now; patterns = c.guarded_test.inside.patterns.now } in
    on_ok_weaker c.add_term-2.result
    (λ e.
    subst (λ (z : GuardedTest). FreesOnto z c.args.terms.now.items c.add_term-2.new.terms.items) c.guarded_test.view_is
    (freed_by_key q c.in-Encryption.body.now c.in-Encryption.key.now c.in-Encryption.ensures c.buildable.result
    (asked_at q c.known.result.now c.in-Encryption.key.now (subst (λ (x : SkeletonNode). (t : Term) → IsDerivable c.known.result.now t ↔ DerivableAt x.skeleton x.node t) c.guarded_test.invariant.0 c.known.ensures) c.buildable.result c.buildable.ensures.exact) c.args.terms.now.items c.add_term-2.new.terms.items c.if-buildable.false
    (e ∙ ap (λ (t : Term). terms_onto c.args.terms.now.items (t ∷ [])) c.in_ok-key.ensures)))
    c.add_term-2.ensures
