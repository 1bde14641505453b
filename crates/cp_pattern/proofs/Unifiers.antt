-- Most general unifiers of terms, as unification gives them, and that two of them do the same.
use Rattle.std.proofs.Common.{◌≡◌, ◌++◌, [], refl, sym, ap, ◌∙◌, subst, Option, Some, None, IfSome, IfNone}
use Rattle.std.proofs.lemmas.List.{append-nil}
use Rattle.std.specs.Prelude.{List}
use Rattle.cp_model.specs.Term.{Term, variables_of, value_of, after, Substitution, apply_to}
use Rattle.cp_model.specs.declared.variable.Variable.{Variable}
use Rattle.cp_model.proofs.LawTerms.{value_after}
use Rattle.cp_unify.specs.Bindings.{Binding, as_substitution, variables_of_bindings}
use Rattle.cp_unify.specs.Unifiers.{AreVariablesAmong, IsMostGeneralUnifier, HasNoUnifier}
use Rattle.cp_unify.proofs.Free.{free}
use Rattle.cp_unify.proofs.Substituted.{value_met}
use Rattle.cp_collapse.proofs.OneUnifier.{one_unifier}
use Rattle.cp_pattern.specs.Unifiers.{UnifiesMostGenerally, NeverEqual}

unifies_most_generally : (a b : Term) (r : List Binding) → IsMostGeneralUnifier a b [] r → UnifiesMostGenerally a b (as_substitution r)
unifies_most_generally a b r m = record {
  unifies = m.unifies;
  general = λ g e t. value_after g (as_substitution r) t ∙ value_met g r t (m.general g tt e);
  directed = record { bindings = r; is_substitution = refl; later_to_earlier = m.later_to_earlier; idempotent = m.idempotent };
}

within : (a b : Term) (r : List Binding) → IsMostGeneralUnifier a b [] r → AreVariablesAmong (variables_of_bindings r) (variables_of a ++ variables_of b)
within a b r m = subst (λ (xs : List Variable). AreVariablesAmong (variables_of_bindings r) (variables_of a ++ xs)) (append-nil (variables_of b)) m.no_new

-- The answer of unification beside no bindings.
module _ (a b : Term) (given : List Binding) (nothing : given ≡ []) (answer : Option (List Binding)) where
  pub some_unifier : IfSome answer (λ r. IsMostGeneralUnifier a b given r) → IfSome answer (λ s. UnifiesMostGenerally a b (as_substitution s))
  some_unifier h = of answer (subst (λ (g : List Binding). IfSome answer (λ r. IsMostGeneralUnifier a b g r)) nothing h)
    where
      of : (found : Option (List Binding)) → IfSome found (λ r. IsMostGeneralUnifier a b [] r) → IfSome found (λ s. UnifiesMostGenerally a b (as_substitution s))
      of None k = tt
      of (Some r) k = unifies_most_generally a b r k

  pub unifier_within : IfSome answer (λ r. IsMostGeneralUnifier a b given r) → IfSome answer (λ s. AreVariablesAmong (variables_of_bindings s) (variables_of a ++ variables_of b))
  unifier_within h = of answer (subst (λ (g : List Binding). IfSome answer (λ r. IsMostGeneralUnifier a b g r)) nothing h)
    where
      of : (found : Option (List Binding)) → IfSome found (λ r. IsMostGeneralUnifier a b [] r) → IfSome found (λ s. AreVariablesAmong (variables_of_bindings s) (variables_of a ++ variables_of b))
      of None k = tt
      of (Some r) k = within a b r k

  pub no_unifier : IfNone answer (HasNoUnifier a b given) → IfNone answer (NeverEqual a b)
  no_unifier h = of answer (subst (λ (g : List Binding). IfNone answer (HasNoUnifier a b g)) nothing h)
    where
      of : (found : Option (List Binding)) → IfNone found (HasNoUnifier a b []) → IfNone found (NeverEqual a b)
      of None k = λ g e. k g tt e
      of (Some r) k = tt

made_equal : (a b : Term) (s : Substitution) → apply_to s a ≡ apply_to s b → value_of (after free s) a ≡ value_of (after free s) b
made_equal a b s e = value_after free s a ∙ ap (value_of free) e ∙ sym (value_after free s b)

-- Two most general unifiers of two terms do the same.
pub one_for_terms : (a b : Term) (s t : Substitution) → UnifiesMostGenerally a b s → UnifiesMostGenerally a b t → (u : Term) → apply_to s u ≡ apply_to t u
one_for_terms a b s t m n =
    one_unifier (λ g. value_of g a ≡ value_of g b) s t m.directed n.directed (made_equal a b s m.unifies) (made_equal a b t n.unifies) m.general n.general
