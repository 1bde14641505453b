-- Terms under joined bindings.
use Rattle.std.proofs.Common.{◌≡◌, List, [], ◌∷◌, ◌++◌, map, refl, sym, ap, ap₂, ◌∙◌}
use Rattle.std.proofs.lemmas.List.{append-nil}
use Rattle.cp_model.specs.Term.{Term, Substitution, Assignment, value_of, after, apply_to}
use Rattle.cp_model.proofs.LawTerms.{term_composed, term_unchanged}
use Rattle.cp_unify.specs.Bindings.{Binding, as_substitution, variables_of_bindings}
use Rattle.cp_unify.specs.Joined.{moved, joined_bindings}
use Rattle.cp_unify.specs.Unifiers.{AreVariablesAmong}
use Rattle.cp_unify.proofs.Members.{among_left, among_right}
use Rattle.cp_unify.proofs.SolvedBindings.{after_composed}
use Rattle.cp_unify.proofs.Steps.{joined_among}
use Rattle.cp_unify.proofs.Substituted.{as_joined}

pub joined_applies : (r q s : List Binding) → s ≡ joined_bindings r q → (t : Term) →
    apply_to (as_substitution s) t ≡ apply_to (as_substitution q) (apply_to (as_substitution r) t)
joined_applies r q s e t =
    ap (λ (u : Substitution). apply_to u t) (ap as_substitution e ∙ as_joined r q) ∙ term_composed (as_substitution r) (as_substitution q) t

pub joined_values : (r q s : List Binding) → s ≡ joined_bindings r q → (g : Assignment) (t : Term) →
    value_of (after g (as_substitution s)) t ≡ value_of (after (after g (as_substitution q)) (as_substitution r)) t
joined_values r q s e g t =
    ap (λ (u : Substitution). value_of (after g u) t) (ap as_substitution e ∙ as_joined r q)
    ∙ ap (λ (h : Assignment). value_of h t) (after_composed g (as_substitution r) (as_substitution q))

pub joined_no_new : (r q s : List Binding) → s ≡ joined_bindings r q → AreVariablesAmong (variables_of_bindings s) (variables_of_bindings r ++ variables_of_bindings q)
joined_no_new r q s e = rw e (joined_among r q _ (among_left _ _) (among_right (variables_of_bindings r) _))

moved_by_none : (r : List Binding) → map (moved []) r ≡ r
moved_by_none [] = refl
moved_by_none (b ∷ bs) = ap₂ (λ (c : Binding) (cs : List Binding). c ∷ cs) (ap (λ (t : Term). record b { term = t }) (term_unchanged b.term)) (moved_by_none bs)

-- Where one of two has no bindings, the other is what they are together.
pub joined_before_none : (r q s : List Binding) → q ≡ [] → s ≡ r → s ≡ joined_bindings r q
joined_before_none r q s none same = same ∙ sym (ap (joined_bindings r) none ∙ append-nil (map (moved []) r) ∙ moved_by_none r)

pub joined_after_none : (r q s : List Binding) → r ≡ [] → s ≡ q → s ≡ joined_bindings r q
joined_after_none r q s none same = same ∙ sym (ap (λ (rs : List Binding). joined_bindings rs q) none)
