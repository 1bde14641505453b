-- The terms of the declared variables, declaration by declaration.
use Rattle.std.proofs.Common.{◌≡◌, ◌+◌, ◌<◌, ◌≤◌, ℕ, List, [], ◌∷◌, ◌++◌, length, get_or, drop, sym, ap, ◌∙◌, add-one, append_assoc}
use Rattle.std.proofs.lemmas.List.{append-nil, drop_all}
use Rattle.cp_lists.proofs.Members.{drop_read}
use Rattle.cp_model.specs.Term.{Term, Substitution, apply_to, composed, variable_term}
use Rattle.cp_model.specs.declared.variable.Variable.{Variable}
use Rattle.cp_model.proofs.LawTerms.{term_composed}
use Rattle.cp_model.specs.PrefixVariables.{declared_variables, terms_of}
use Rattle.cp_model.specs.declared.variable.Declaration.{Declaration}
use Rattle.cp_collapse.specs.Values.{image_of_variable}

-- One declaration more.
module _ (f : Substitution) (ds : List Declaration) (n : ℕ) (d : Declaration) (lt : n < length ds) (is : d ≡ get_or ds n d) where
  abbrev x : Variable
  x = record { sort = d.sort; number = n }

  pub opened : terms_of f (declared_variables n (drop n ds)) ≡ image_of_variable f x ∷ terms_of f (declared_variables (n + 1) (drop (n + 1) ds))
  opened =
      ap (λ (es : List Declaration). terms_of f (declared_variables n es)) (drop_read ds n d lt is)
      ∙ ap (λ m. image_of_variable f x ∷ terms_of f (declared_variables m (drop (n + 1) ds))) (sym (add-one n))

  pub declaration_next : (old new whole : List Term) (t : Term) → old ++ terms_of f (declared_variables n (drop n ds)) ≡ whole → t ≡ image_of_variable f x → new ≡ old ++ (t ∷ []) →
      new ++ terms_of f (declared_variables (n + 1) (drop (n + 1) ds)) ≡ whole
  declaration_next old new whole t so_far e pushed =
      let rest : List Term = terms_of f (declared_variables (n + 1) (drop (n + 1) ds)) in
      ap (λ us. us ++ rest) pushed ∙ append_assoc old (t ∷ []) rest ∙ ap (λ u. old ++ (u ∷ rest)) e ∙ ap (λ us. old ++ us) (sym opened) ∙ so_far

pub declarations_end : (f : Substitution) (ds : List Declaration) (n : ℕ) (terms whole : List Term) → length ds ≤ n → terms ++ terms_of f (declared_variables n (drop n ds)) ≡ whole → terms ≡ whole
declarations_end f ds n terms whole le so_far = sym (ap (λ (es : List Declaration). terms ++ terms_of f (declared_variables n es)) (drop_all n ds le) ∙ append-nil terms) ∙ so_far

-- The term under one substitution and then another.
pub image_composed : (s t : Substitution) (x : Variable) (n : ℕ) (u : Term) → n ≡ x.number → u ≡ apply_to t (image_of_variable s (record { sort = x.sort; number = n })) → u ≡ image_of_variable (composed s t) x
image_composed s t x n u same e = e ∙ ap (λ m. apply_to t (image_of_variable s (record { sort = x.sort; number = m }))) same ∙ sym (term_composed s t (variable_term x))
