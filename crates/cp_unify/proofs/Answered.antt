-- The answers of unification.
use Rattle.std.proofs.Common.{◌≡◌, ◌<◌, ◌≤◌, ◌+◌, ℕ, Bool, true, false, List, [], ◌∷◌, ◌++◌, length, get_or, drop, sym, ap, ◌∙◌, subst}
use Rattle.std.proofs.lemmas.List.{drop_all}
use Rattle.cp_lists.specs.Lists.{here, there}
use Rattle.cp_model.specs.Term.{Term, variable_term, variables_of, value_of}
use Rattle.cp_unify.specs.Bindings.{Binding, variables_of_bindings}
use Rattle.cp_unify.specs.Solved.{IsSolved, IsSolution, SolvesBeside, AreSolvedBut}
use Rattle.cp_unify.specs.Unifiers.{AreVariablesAmong, IsMostGeneralUnifier, HasNoUnifier}
use Rattle.cp_lists.proofs.Members.{not_in_none, in_append_left, in_append_right, drop_read}
use Rattle.cp_unify.proofs.Members.{among_append}
use Rattle.cp_unify.proofs.SolvedBindings.{factoring, idempotent_term, unified, solves, solvable}
use Rattle.cp_unify.proofs.SolvedParts.{is_solved, is_unsolvable}
use Rattle.cp_unify.proofs.Steps.{one_variable}

pub none_at_all : IsSolved []
none_at_all = record { met = λ g. tt; later_to_earlier = tt }

pub already_solved : (s r : List Binding) → r ≡ s → IsSolved s → AreSolvedBut s [] r
already_solved s r e h = subst (λ (q : List Binding). AreSolvedBut s [] q) (sym e) (record {
  solved = h;
  sound = λ g m n. m;
  general = λ g m. (m, tt);
  within = λ x i. i;
  rest_within = λ x i. absurd (not_in_none i);
})

pub solved_but_all : (s : List Binding) → AreSolvedBut s s []
solved_but_all s = record {
  solved = none_at_all;
  sound = λ g m n. n;
  general = λ g m. (tt, m);
  within = λ x i. absurd (not_in_none i);
  rest_within = λ x i. i;
}

next_within : (s rest r : List Binding) (b : Binding) → AreSolvedBut s (b ∷ rest) r →
    AreVariablesAmong (variables_of (variable_term b.variable) ++ (variables_of b.term ++ variables_of_bindings r)) (variables_of_bindings s)
next_within s rest r b h =
    let own : AreVariablesAmong (variables_of (variable_term b.variable)) (variables_of_bindings s) =
    one_variable b.variable.sort b.variable.number (variables_of_bindings s) (h.rest_within b.variable here) in
    among_append _ _ _ own (among_append _ _ _ (λ x i. h.rest_within x (there (in_append_left (variables_of_bindings rest) i))) h.within)

solved_but_fewer : (s rest r next : List Binding) (b : Binding) → AreSolvedBut s (b ∷ rest) r →
    SolvesBeside (variable_term b.variable) b.term r next → AreSolvedBut s rest next
solved_but_fewer s rest r next b h k = record {
  solved = k.solved;
  sound = λ g m n. let p = k.sound g m in h.sound g p.0 (p.1, n);
  general = λ g m. let p = h.general g m in (k.general g p.0 p.1.0, p.1.1);
  within = λ x i. next_within s rest r b h x (k.no_new x i);
  rest_within = λ x i. h.rest_within x (there (in_append_right (variables_of b.term) i));
}

none_solved : (s rest r : List Binding) (b : Binding) → AreSolvedBut s (b ∷ rest) r →
    HasNoUnifier (variable_term b.variable) b.term r → (a c : Term) → HasNoUnifier a c s
none_solved s rest r b h k a c g m e = let p = h.general g m in k g p.0 p.1.0

-- As the loop has them.
pub next_solved : (s r next : List Binding) (i : ℕ) (b : Binding) (left right : Term) → AreSolvedBut s (drop i s) r → i < length s → b ≡ get_or s i b →
    left ≡ variable_term b.variable → right ≡ b.term → SolvesBeside left right r next → AreSolvedBut s (drop (i + 1) s) next
next_solved s r next i b left right h below read el er k =
    solved_but_fewer s (drop (i + 1) s) r next b (subst (λ (t : List Binding). AreSolvedBut s t r) (drop_read s i b below read) h) (rw (← el, ← er) k)

pub no_next : (s r : List Binding) (i : ℕ) (b : Binding) (left right : Term) → AreSolvedBut s (drop i s) r → i < length s → b ≡ get_or s i b →
    left ≡ variable_term b.variable → right ≡ b.term → HasNoUnifier left right r → (a c : Term) → HasNoUnifier a c s
no_next s r i b left right h below read el er k =
    none_solved s (drop (i + 1) s) r b (subst (λ (t : List Binding). AreSolvedBut s t r) (drop_read s i b below read) h)
    (λ g m e. k g m (ap (value_of g) el ∙ e ∙ sym (ap (value_of g) er)))

all_solved : (s r : List Binding) (i : ℕ) → AreSolvedBut s (drop i s) r → length s ≤ i → AreSolvedBut s [] r
all_solved s r i h end = subst (λ (t : List Binding). AreSolvedBut s t r) (drop_all i s end) h

pub most_general : (s r answer : List Binding) (a b : Term) → AreSolvedBut s [] r → SolvesBeside a b r answer → IsMostGeneralUnifier a b s answer
most_general s r answer a b h k = record {
  sound = λ g m. let p = k.sound g m in (h.sound g p.0 tt, p.1);
  general = λ g m e. k.general g (h.general g m).0 e;
  solvable = solvable answer k.solved.met;
  factors = factoring answer s a b (λ g m e. k.general g (h.general g m).0 e);
  unifies = unified answer a b k.solved.met (λ g m. (k.sound g m).1);
  solves_given = solves answer s k.solved.met (λ g m. h.sound g (k.sound g m).0 tt);
  idempotent = idempotent_term answer k.solved.met;
  no_new = λ x i. among_append (variables_of a) _ _ (λ y j. in_append_left _ j)
      (among_append (variables_of b) (variables_of_bindings r) _ (λ y j. in_append_right (variables_of a) (in_append_left _ j))
      (λ y j. in_append_right (variables_of a) (in_append_right (variables_of b) (h.within y j)))) x (k.no_new x i);
  later_to_earlier = k.solved.later_to_earlier;
}

-- What the loop has found, for bindings that are those given.
pub all_found : (s given r : List Binding) (i : ℕ) → s ≡ given → AreSolvedBut s (drop i s) r → length s ≤ i → AreSolvedBut given [] r
all_found s given r i e h end = subst (λ (t : List Binding). AreSolvedBut t [] r) e (all_solved s r i h end)

pub none_early : (s given r : List Binding) (i : ℕ) (x : Binding) (left right : Term) → s ≡ given → AreSolvedBut s (drop i s) r → i < length s → x ≡ get_or s i x →
    left ≡ variable_term x.variable → right ≡ x.term → (same : Bool) (q : List Binding) → IsSolution same left right r q → same ≡ false → (a b : Term) → HasNoUnifier a b given
none_early s given r i x left right e h below read el er same q found f a b =
    subst (λ (t : List Binding). HasNoUnifier a b t) e (no_next s r i x left right h below read el er (is_unsolvable left right r q same found f) a b)

pub next_early : (s r : List Binding) (i : ℕ) (x : Binding) (left right : Term) → AreSolvedBut s (drop i s) r → i < length s → x ≡ get_or s i x →
    left ≡ variable_term x.variable → right ≡ x.term → (same : Bool) (next : List Binding) → IsSolution same left right r next → same ≡ true →
    AreSolvedBut s (drop (i + 1) s) next
next_early s r i x left right h below read el er same next found e =
    next_solved s r next i x left right h below read el er (is_solved left right r next same found e)

-- The answer is that of the bindings r, to which those of s were solved.
pub some_answer : (s r q : List Binding) (a b : Term) (same : Bool) → AreSolvedBut s [] r → IsSolution same a b r q → same ≡ true → IsMostGeneralUnifier a b s q
some_answer s r q a b same h found e = most_general s r q a b h (is_solved a b r q same found e)

pub none_answer : (s r q : List Binding) (a b : Term) (same : Bool) → AreSolvedBut s [] r → IsSolution same a b r q → same ≡ false → HasNoUnifier a b s
none_answer s r q a b same h found e g m f = is_unsolvable a b r q same found e g (h.general g m).0 f
