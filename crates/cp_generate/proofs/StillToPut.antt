-- What the text and the ends will be when the parts that are left are appended.
use Rattle.std.proofs.Common.{◌≡◌, ◌<◌, ◌≤◌, ℕ, suc, ◌+◌, ◌-◌, List, [], ◌∷◌, ◌++◌, length, sym, ap, ap₂, ◌∙◌, arith, subst, append_assoc, append-nil, length-append}
use Rattle.std.specs.List.{concat}
use Rattle.cp_generate.specs.Generated.{problem_text, problem_texts_from, part_ends}

-- the problems from number i on, of n in all
abbrev pub left : ℕ → ℕ → List (List ℕ)
left n i = problem_texts_from i (n - i)

pub all_left : (n : ℕ) → problem_texts_from 0 n ≡ left n 0
all_left n = let all : n ≡ n - 0 = omega arith in ap (problem_texts_from 0) all

pub next_left : (n i : ℕ) → i < n → left n i ≡ problem_text i ∷ left n (i + 1)
next_left n i more_left = let fewer : n - i ≡ suc (n - (i + 1)) = omega (arith, more_left) in ap (problem_texts_from i) fewer

none_left : (n i : ℕ) → n ≤ i → left n i ≡ []
none_left n i past = let no_more : n - i ≡ 0 = omega (arith, past) in ap (problem_texts_from i) no_more

-- When these parts are appended, the text and the ends will be these.
pub record Lack (parts : List (List ℕ)) (text ends whole whole_ends : List ℕ) : Type 0 where
  pub of_text : text ++ concat parts ≡ whole
  pub of_ends : ends ++ part_ends (length text) parts ≡ whole_ends

module _ (text ends whole whole_ends : List ℕ) where
  pub lack_as : (parts others : List (List ℕ)) → parts ≡ others → Lack parts text ends whole whole_ends → Lack others text ends whole whole_ends
  lack_as parts others same = subst (λ (ps : List (List ℕ)). Lack ps text ends whole whole_ends) same

  pub one_put : (part : List ℕ) (parts : List (List ℕ)) (next next_ends : List ℕ) → Lack (part ∷ parts) text ends whole whole_ends → next ≡ text ++ part → next_ends ≡ ends ++ length next ∷ []
      → Lack parts next next_ends whole whole_ends
  one_put part parts next next_ends before e g =
      let at : length next ≡ length text + length part = ap length e ∙ length-append text part in
      let end = length text + length part in
      record {
        of_text = ap (λ t. t ++ concat parts) e ∙ append_assoc text part (concat parts) ∙ before.of_text;
        of_ends = ap₂ (λ es n. es ++ part_ends n parts) (g ∙ ap (λ n. ends ++ n ∷ []) at) at ∙ append_assoc ends (end ∷ []) (part_ends end parts) ∙ before.of_ends;
      }

  pub all_put : (n i : ℕ) → n ≤ i → Lack (left n i) text ends whole whole_ends → (text ≡ whole) × (ends ≡ whole_ends)
  all_put n i past before =
      let none = lack_as (left n i) [] (none_left n i past) before in
      (sym (append-nil text) ∙ none.of_text, sym (append-nil ends) ∙ none.of_ends)
