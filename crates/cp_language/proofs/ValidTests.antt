-- The test whether a text is one of several is exact.
use Rattle.std.proofs.Common.{◌≡◌, ℕ, List, [], ◌∷◌, true, subst, ⊎_elim}
use Rattle.std.proofs.lemmas.Bool.{or_cases, or_left, or_right}
use Rattle.cp_lists.specs.Lists.{IsIn, here, there}
use Rattle.cp_model.specs.Same.{same_text}
use Rattle.cp_model.proofs.SameTests.{text_is, same_text_itself}
use Rattle.cp_language.specs.Words.{is_one_of}

pub one_of : (t : List ℕ) (ws : List (List ℕ)) → is_one_of t ws ≡ true → IsIn t ws
one_of t [] e = absurd (cc)
one_of t (w ∷ ws) e =
    ⊎_elim (λ p. subst (λ u. IsIn t (u ∷ ws)) (text_is t w p) here) (λ p. there (one_of t ws p)) (or_cases (same_text t w) (is_one_of t ws) e)

pub is_one : (t : List ℕ) (ws : List (List ℕ)) → IsIn t ws → is_one_of t ws ≡ true
is_one t [] p = elim p [ ]
is_one t (w ∷ ws) here = or_left (same_text t t) (is_one_of t ws) (same_text_itself t)
is_one t (w ∷ ws) (there p) = or_right (same_text t w) (is_one_of t ws) (is_one t ws p)
