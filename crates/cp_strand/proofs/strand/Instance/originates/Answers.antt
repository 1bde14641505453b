use Rattle.std.proofs.Common.{◌≡◌, ◌<◌, ◌≤◌, ap, sym, subst, ◌∙◌, arith}
use Rattle.cp_model.specs.Bindings.{as_substitution, bindings_of}
use Rattle.cp_model.specs.Values.{substitution_by}
use Rattle.cp_model.proofs.DeclaredTerms.{bindings_are}
use Rattle.cp_strand.specs.Origins.{OriginatesUnder}
use Rattle.cp_strand.proofs.Origins.{instance_originates, instance_ends}
use Rattle.cp_strand.proofs.strand.Instance.originates.Goals as goal

pub returns-then-index-height : goal.returns-then-index-height
returns-then-index-height c =
    let i = c.args.self.now in
    let t = c.args.t.now in
    let index = c.args.index in
    let events : c.trace.result.now ≡ i.role.trace = c.trace.ensures ∙ ap (λ r. r.trace) (c.deref.ensures ∙ c.role.ensures) in
    let terms : substitution_by c.values.result.now ≡ as_substitution (bindings_of i.values) = ap substitution_by c.values.ensures ∙ sym (bindings_are i.values) in
    instance_originates (as_substitution (bindings_of i.values)) i.role.trace t index i.height c.originates_under.result (subst (λ h. index < h) c.height.ensures c.if-index-height.true)
    (λ r. subst (λ es. OriginatesUnder (as_substitution (bindings_of i.values)) es t index) events
    (subst (λ s. OriginatesUnder s c.trace.result.now t index) terms (c.originates_under.ensures.0 r)))
    (λ o. c.originates_under.ensures.1
    (subst (λ s. OriginatesUnder s c.trace.result.now t index) (sym terms)
    (subst (λ es. OriginatesUnder (as_substitution (bindings_of i.values)) es t index) (sym events) o)))

pub returns-else-index-height : goal.returns-else-index-height
returns-else-index-height c =
    let i = c.args.self.now in (
      λ r. absurd (grind arith),
      λ o. absurd (instance_ends (as_substitution (bindings_of i.values)) i.role.trace c.args.t.now c.args.index i.height (subst (λ h. h ≤ c.args.index) c.height.ensures c.if-index-height.false) o),
    )
