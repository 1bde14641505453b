-- The values of the map, pair by pair.
use Rattle.std.proofs.Common.{◌≡◌, ℕ, ◌+◌, ◌<◌, ◌≤◌, List, [], ◌∷◌, ◌++◌, length, drop, get_or, refl, ap, ap₂, ◌∙◌, arith, min, ◌⊎◌, inl, inr}
use Rattle.std.proofs.lemmas.List.{drop_all}
use Rattle.cp_model.specs.Term.{Term}
use Rattle.cp_model.specs.declared.variable.Variable.{Variable}
use Rattle.cp_sexpr.specs.Syntax.{Form}
use Rattle.cp_language.specs.Printed.{plain_list, word, term_form}
use Rattle.cp_language.specs.Report.{value_forms}
use Rattle.cp_lists.proofs.Members.{drop_read}

-- past the shorter of two lengths one of them ends
pub either : (m n k : ℕ) → min m n ≤ k → (m ≤ k) ⊎ (n ≤ k)
either m n k h = grind arith

below_first : (m n k : ℕ) → k < min m n → k < m
below_first m n k h = grind arith

below_second : (m n k : ℕ) → k < min m n → k < n
below_second m n k h = grind arith

module _ (named : Variable → Form) where
  -- one name with its value, and those behind it
  pub value_next : (names : List (List ℕ)) (ts : List Term) (k : ℕ) (x : List ℕ) (t : Term) → k < min (length names) (length ts) → x ≡ get_or names k x → t ≡ get_or ts k t
      → value_forms named (drop k names) (drop k ts) ≡ (plain_list (word x ∷ term_form named t ∷ []) ∷ []) ++ value_forms named (drop (k + 1) names) (drop (k + 1) ts)
  value_next names ts k x t h e f =
      ap₂ (λ (xs : List (List ℕ)) (us : List Term). value_forms named xs us) (drop_read names k x (below_first (length names) (length ts) k h) e) (drop_read ts k t (below_second (length names) (length ts) k h) f)

  values-short : (names : List (List ℕ)) → value_forms named names [] ≡ []
  values-short [] = refl
  values-short (x ∷ xs) = refl

  -- at the end of the shorter list nothing is left
  pub values_done : (names : List (List ℕ)) (ts : List Term) (k : ℕ) → min (length names) (length ts) ≤ k → value_forms named (drop k names) (drop k ts) ≡ []
  values_done names ts k h = by_length (length names) (length ts) refl refl h
    where
      by_names : length names ≤ k → value_forms named (drop k names) (drop k ts) ≡ []
      by_names g = ap (λ (xs : List (List ℕ)). value_forms named xs (drop k ts)) (drop_all k names g)

      by_terms : length ts ≤ k → value_forms named (drop k names) (drop k ts) ≡ []
      by_terms g = ap (λ (us : List Term). value_forms named (drop k names) us) (drop_all k ts g) ∙ values-short (drop k names)

      by_length : (m n : ℕ) → m ≡ length names → n ≡ length ts → min m n ≤ k → value_forms named (drop k names) (drop k ts) ≡ []
      by_length m n e f h = elim (either m n k h) [ inl a ↦ by_names (omega (arith, a, e)) | inr b ↦ by_terms (omega (arith, b, f)) ]
