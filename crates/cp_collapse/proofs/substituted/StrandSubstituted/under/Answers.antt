use Rattle.std.proofs.Common.{List, ap, sym, ◌∙◌}
use Rattle.std.proofs.lemmas.Result.{IfOk-weaker}
use Rattle.cp_model.specs.Term.{Term, composed}
use Rattle.cp_model.specs.Values.{substitution_by}
use Rattle.cp_model.specs.PrefixVariables.{declared_variables, terms_of}
use Rattle.cp_model.specs.declared.variable.Declaration.{Declaration}
use Rattle.cp_model.specs.Strand.{Role}
use Rattle.cp_unify.specs.Bindings.{as_substitution}
use Rattle.cp_strand.specs.Shapes.{strand_of_shape}
use Rattle.cp_collapse.proofs.Values.{declared_is}
use Rattle.cp_collapse.proofs.substituted.StrandSubstituted.under.Goals as goal

pub with_values-requires : goal.with_values-requires
with_values-requires c = record {
  strand = sym (ap strand_of_shape (sym c.in-Instance.is) ∙ c.shape.ensures);
  values =
      c.in_ok-values-in-Instance.ensures
      ∙ ap (λ (ts : List Term). terms_of (composed (substitution_by ts) (as_substitution c.args.s.now)) (declared_variables 0 c.variables-declarations.result.now)) c.values-terms.ensures
      ∙ ap (λ (ds : List Declaration). terms_of (composed (substitution_by c.in-Instance.instance.now.values) (as_substitution c.args.s.now)) (declared_variables 0 ds))
      (c.variables-declarations.ensures ∙ ap (λ (r : Role). r.variables) (c.deref.ensures ∙ c.role.ensures));
}

pub returns-in_ok-values-in-Instance : goal.returns-in_ok-values-in-Instance
returns-in_ok-values-in-Instance c =
    IfOk-weaker c.with_values.result _ _
    (λ t h. h ∙ declared_is (as_substitution c.args.s.now) c.in-Instance.instance.now c.args.self.now _ c.in_ok-values-in-Instance.values.items _ (ap strand_of_shape (sym c.in-Instance.is) ∙ c.shape.ensures) c.values-terms.ensures (c.variables-declarations.ensures ∙ ap (λ (r : Role). r.variables) (c.deref.ensures ∙ c.role.ensures)) c.in_ok-values-in-Instance.ensures)
    c.with_values.ensures
