use Rattle.std.proofs.Common.{◌≡◌, refl, sym, ap, ap₂, ◌∙◌}
use Rattle.cp_model.specs.Term.{variables_of_atom, Substitution, apply_to_atom}
use Rattle.cp_model.specs.Bindings.{bindings_of}
use Rattle.cp_model.specs.Strand.{variables_of_prefix}
use Rattle.cp_model.specs.Values.{substitution_by}
use Rattle.cp_model.proofs.DeclaredTerms.{bindings_are}
use Rattle.cp_model.specs.Same.{has_variables}
use Rattle.cp_model.specs.Given.{applying}
use Rattle.cp_strand.proofs.GivenValues.{value-applies, value-left, all-applied}
use Rattle.cp_strand.proofs.given.applying.Goals as goal

pub loop-atom-preserved-then-not-all_occur_before : goal.loop-atom-preserved-then-not-all_occur_before
loop-atom-preserved-then-not-all_occur_before c =
    let k = c.args.instance.now in
    let test : c.all_occur_before.result ≡ has_variables (variables_of_prefix k.role k.height) (variables_of_atom c.atom-item.result) =
    c.all_occur_before.ensures ∙ ap₂ (λ r h. has_variables (variables_of_prefix r h) (variables_of_atom c.atom-item.result)) (c.deref-role.ensures ∙ c.role.ensures) c.height-height.ensures in
    value-left k c.args.stated.now c.loop-atom.atom-index c.loop-atom.values.items _ c.atom-item.result c.loop-atom-test.true c.atom-item.is c.loop-atom.invariant (sym c.if-not-all_occur_before.true ∙ test)

pub loop-atom-preserved : goal.loop-atom-preserved
loop-atom-preserved c =
    let k = c.args.instance.now in
    let test : c.all_occur_before.result ≡ has_variables (variables_of_prefix k.role k.height) (variables_of_atom c.atom-item.result) =
    c.all_occur_before.ensures ∙ ap₂ (λ r h. has_variables (variables_of_prefix r h) (variables_of_atom c.atom-item.result)) (c.deref-role.ensures ∙ c.role.ensures) c.height-height.ensures in
    value-applies k c.args.stated.now c.loop-atom.atom-index c.loop-atom.values.items _ c.atom-item.result c.loop-atom-test.true c.atom-item.is c.loop-atom.invariant
    (sym c.if-not-all_occur_before.false ∙ test) c.push.new.self.items _ c.in_ok-push.ensures.items
    (c.in_ok-applied_atom.ensures ∙ ap (λ ts. apply_to_atom (substitution_by ts) c.atom-item.result) c.values.ensures ∙ ap (λ (s : Substitution). apply_to_atom s c.atom-item.result) (sym (bindings_are k.values)))

pub returns : goal.returns
returns c =
    let k = c.args.instance.now in
    all-applied (applying k.role k.height (bindings_of k.values)) c.args.stated.now c.loop-atom.atom-index c.loop-atom.values.items _ c.loop-atom-test.false refl c.loop-atom.invariant
