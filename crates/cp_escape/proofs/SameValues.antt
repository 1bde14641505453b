-- Values that agree on the variables of events, and strands that say the same.
use Rattle.std.proofs.Common.{◌≡◌, ℕ, zero, suc, ◌+◌, ◌<◌, ◌≤◌, List, [], ◌∷◌, length, get_or, drop, sym, ◌∙◌, subst, ⊎_elim}
use Rattle.std.proofs.lemmas.List.{drop_all}
use Rattle.cp_lists.proofs.Members.{in_append, in_append_left, in_append_right, drop_read, not_in_none}
use Rattle.cp_model.specs.Term.{Term, variable_term, variables_of, Substitution, apply_to, composed, AgreeOnTerms}
use Rattle.cp_model.specs.Identity.{unchanged}
use Rattle.cp_model.specs.Strand.{payload, variables_of_trace}
use Rattle.cp_model.specs.declared.strand.Event.{Event}
use Rattle.cp_model.proofs.LawTerms.{term_unchanged, term_composed}
use Rattle.cp_model.proofs.LawAgreement.{agree_term}
use Rattle.cp_hom.specs.Counterparts.{MakesEvents}
use Rattle.cp_hom.proofs.Agreed.{events_agreed}

-- Substitutions that agree on the events that are left agree on all.
abbrev pub AgreeSoFar : Substitution → Substitution → List (Event Term) → List (Event Term) → Type 0
AgreeSoFar s t whole left = AgreeOnTerms (variables_of_trace left) s t → AgreeOnTerms (variables_of_trace whole) s t

-- Substitutions that give an event one message agree on its variables.
agreed_on_one : (s t : Substitution) (e : Event Term) → apply_to s (payload e) ≡ apply_to t (payload e) → AgreeOnTerms (variables_of (payload e)) s t
agreed_on_one s t e same x i =
    let makes : MakesEvents unchanged (e ∷ []) s t = (term_unchanged (apply_to s (payload e)) ∙ same, tt) in
    let a : apply_to (composed s unchanged) (variable_term x) ≡ apply_to t (variable_term x) = events_agreed unchanged (e ∷ []) s t makes x (in_append_left [] i) in
    sym (term_composed s unchanged (variable_term x) ∙ term_unchanged (apply_to s (variable_term x))) ∙ a

module _ (s t : Substitution) (whole : List (Event Term)) (i : ℕ) (e : Event Term) (below : i < length whole) (read : e ≡ get_or whole i e) where
  left : drop i whole ≡ e ∷ drop (i + 1) whole
  left = drop_read whole i e below read

  pub agree_next : AgreeSoFar s t whole (drop i whole) → apply_to s (payload e) ≡ apply_to t (payload e) → AgreeSoFar s t whole (drop (i + 1) whole)
  agree_next so_far same rest =
      so_far (subst (λ (es : List (Event Term)). AgreeOnTerms (variables_of_trace es) s t) (sym left)
      (λ x j. ⊎_elim (λ k. agreed_on_one s t e same x k) (λ k. rest x k) (in_append (variables_of (payload e)) (variables_of_trace (drop (i + 1) whole)) j)))

pub agree_past : (s t : Substitution) (whole : List (Event Term)) (i : ℕ) → length whole ≤ i → AgreeSoFar s t whole (drop i whole) → AgreeOnTerms (variables_of_trace whole) s t
agree_past s t whole i past so_far = so_far (subst (λ (es : List (Event Term)). AgreeOnTerms (variables_of_trace es) s t) (sym (drop_all i whole past)) (λ x j. absurd (not_in_none j)))

-- Where they agree, each event has one message.
agree_rest : (s t : Substitution) (whole : List (Event Term)) (i : ℕ) → AgreeOnTerms (variables_of_trace whole) s t → AgreeOnTerms (variables_of_trace (drop i whole)) s t
agree_rest s t whole zero a = a
agree_rest s t [] (suc i) a = a
agree_rest s t (e ∷ es) (suc i) a = agree_rest s t es i (λ x j. a x (in_append_right (variables_of (payload e)) j))

pub agree_there : (s t : Substitution) (whole : List (Event Term)) (i : ℕ) (e : Event Term) → i < length whole → e ≡ get_or whole i e → AgreeOnTerms (variables_of_trace whole) s t → apply_to s (payload e) ≡ apply_to t (payload e)
agree_there s t whole i e below read a =
    let rest : AgreeOnTerms (variables_of_trace (e ∷ drop (i + 1) whole)) s t = subst (λ (es : List (Event Term)). AgreeOnTerms (variables_of_trace es) s t) (drop_read whole i e below read) (agree_rest s t whole i a) in
    agree_term s t (payload e) (λ x j. rest x (in_append_left (variables_of_trace (drop (i + 1) whole)) j))
