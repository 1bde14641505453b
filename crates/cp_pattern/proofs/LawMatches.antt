-- What a pattern matches under substitutions that follow.
use Rattle.std.proofs.Common.{◌≡◌, ℕ, suc, List, [], ◌∷◌, refl, sym, ap, ◌∙◌}
use Rattle.cp_lists.specs.Lists.{IsIn, there}
use Rattle.cp_lists.proofs.Members.{at_head}
use Rattle.cp_model.specs.Term.{Term, variable_term, Substitution, apply_to, composed}
use Rattle.cp_model.specs.declared.variable.Variable.{Variable}
use Rattle.cp_model.proofs.LawTerms.{term_composed}
use Rattle.cp_model.specs.Tree.{Pattern}
use Rattle.cp_unify.specs.Bindings.{Binding}
use Rattle.cp_unify.proofs.VariablesUnder.{other}
use Rattle.cp_theory.specs.Matches.{Matches}
use Rattle.cp_pattern.specs.Opened.{with_new, opened_pattern}

-- What a pattern matches, it matches under any further substitution.
pub matching_stays : (p : Pattern) (s u : Substitution) (e : Term) → Matches p s e → Matches p (composed s u) (apply_to u e)
matching_stays p s u e m = record {
  filled = composed m.filled u;
  as_said = λ x free. term_composed m.filled u (variable_term x) ∙ ap (apply_to u) (m.as_said x free) ∙ sym (term_composed s u (variable_term x));
  same = term_composed m.filled u p.term ∙ ap (apply_to u) m.same;
}

-- The binding of a variable to a new one.
abbrev pub to_new : ℕ → Variable → Binding
to_new n x = record { variable = x; term = variable_term (record { sort = x.sort; number = n }) }

-- New variables for the locals leave the others.
pub others_stay : (n : ℕ) (xs : List Variable) (s : Substitution) (y : Variable) → (IsIn y xs → ⊥) → apply_to (with_new n xs s) (variable_term y) ≡ apply_to s (variable_term y)
others_stay n [] s y apart = refl
others_stay n (x ∷ xs) s y apart =
    other (to_new n x) (with_new (suc n) xs s) y (λ e. apart (at_head e))
    ∙ others_stay (suc n) xs s y (λ i. apart (there i))

-- Where a substitution makes a term and an opened pattern one, the pattern then matches the term.
pub unifier_matches : (p : Pattern) (s u : Substitution) (n : ℕ) (e : Term) → apply_to u e ≡ apply_to u (opened_pattern p s n) → Matches p (composed s u) (apply_to u e)
unifier_matches p s u n e same = record {
  filled = composed (with_new n p.locals s) u;
  as_said = λ x free. term_composed (with_new n p.locals s) u (variable_term x)
      ∙ ap (apply_to u) (others_stay n p.locals s x free.no_local)
      ∙ sym (term_composed s u (variable_term x));
  same = term_composed (with_new n p.locals s) u p.term ∙ sym same;
}
