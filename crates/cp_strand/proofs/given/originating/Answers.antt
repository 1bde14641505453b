use Rattle.std.proofs.Common.{◌≡◌, ◌<◌, ◌≤◌, refl, map, sym, ap, ◌∙◌, subst}
use Rattle.cp_model.specs.Term.{Substitution, apply_to_atom}
use Rattle.cp_model.specs.Bindings.{as_substitution, bindings_of}
use Rattle.cp_model.specs.Values.{substitution_by}
use Rattle.cp_model.proofs.DeclaredTerms.{bindings_are}
use Rattle.cp_model.specs.Given.{applying_uniques}
use Rattle.cp_strand.specs.Givens.{unique_on}
use Rattle.cp_strand.proofs.FirstOrigins.{origin-moved}
use Rattle.cp_strand.proofs.GivenValues.{nowhere-originates, originates-late, originates-below, all-applied}
use Rattle.cp_strand.proofs.given.originating.Goals as goal

pub loop-atom-preserved-in_default : goal.loop-atom-preserved-in_default
loop-atom-preserved-in_default c =
    let k = c.args.instance.now in
    let trace : c.trace.result.now ≡ k.role.trace = c.trace.ensures ∙ ap (λ r. r.trace) (c.deref-in-loop-atom.ensures ∙ c.role-role.ensures) in
    λ s. nowhere-originates k s c.uniquely_originating-stated.result.now c.loop-atom.atom-index c.loop-atom.values.items _
    c.atom-item.result c.loop-atom-test.true c.atom-item.is (c.loop-atom.invariant s)
    (λ i o. c.in_default.ensures.none i (origin-moved _ _ _ _ i (sym trace) (sym c.as_term.ensures) o))

pub loop-atom-preserved-then-index-height : goal.loop-atom-preserved-then-index-height
loop-atom-preserved-then-index-height c =
    let k = c.args.instance.now in
    let trace : c.trace.result.now ≡ k.role.trace = c.trace.ensures ∙ ap (λ r. r.trace) (c.deref-in-loop-atom.ensures ∙ c.role-role.ensures) in
    λ s. originates-late k s c.uniquely_originating-stated.result.now c.loop-atom.atom-index c.loop-atom.values.items _
    c.atom-item.result c.loop-atom-test.true c.atom-item.is (c.loop-atom.invariant s)
    c.in-Some.index (origin-moved _ _ _ _ _ trace c.as_term.ensures c.in-Some.ensures.some) (subst (λ h. h ≤ c.in-Some.index) c.height.ensures c.if-index-height.true)

pub loop-atom-preserved : goal.loop-atom-preserved
loop-atom-preserved c =
    let k = c.args.instance.now in
    let trace : c.trace.result.now ≡ k.role.trace = c.trace.ensures ∙ ap (λ r. r.trace) (c.deref-in-loop-atom.ensures ∙ c.role-role.ensures) in
    let value : c.in_ok-value.value ≡ apply_to_atom (as_substitution (bindings_of k.values)) c.atom-item.result =
    c.in_ok-value.ensures ∙ ap (λ ts. apply_to_atom (substitution_by ts) c.atom-item.result) c.values.ensures ∙ ap (λ (s : Substitution). apply_to_atom s c.atom-item.result) (sym (bindings_are k.values)) in
    λ s. originates-below k s c.uniquely_originating-stated.result.now c.loop-atom.atom-index c.loop-atom.values.items _
    c.atom-item.result c.loop-atom-test.true c.atom-item.is (c.loop-atom.invariant s)
    c.in-Some.index (origin-moved _ _ _ _ _ trace c.as_term.ensures c.in-Some.ensures.some) (subst (λ h. c.in-Some.index < h) c.height.ensures c.if-index-height.false)
    c.in_ok-value.value value c.push.new.self.items c.in_ok-push.ensures.items

pub returns : goal.returns
returns c =
    let k = c.args.instance.now in
    let stated : c.uniquely_originating-stated.result.now ≡ k.role.uniquely_originating = c.uniquely_originating-stated.ensures ∙ ap (λ r. r.uniquely_originating) (c.deref.ensures ∙ c.role-role.ensures) in
    λ s. all-applied (applying_uniques k.role k.height (bindings_of k.values) s) c.uniquely_originating-stated.result.now c.loop-atom.atom-index (map (unique_on s) c.loop-atom.values.items) _
    c.loop-atom-test.false refl (c.loop-atom.invariant s)
    ∙ ap (applying_uniques k.role k.height (bindings_of k.values) s) stated
