-- Names that are given one by one.
use Rattle.std.proofs.Common.{◌≡◌, ℕ, suc, ◌+◌, ◌-◌, ◌<◌, List, length, true, refl, sym, ap, ◌∙◌, arith, add-one}
use Rattle.cp_language.specs.Words.{is_one_of}
use Rattle.cp_language.specs.Names.{numbered_name, first_numbered}

first_numbered-suc : (m : ℕ) (taken : List (List ℕ)) (x : List ℕ) (n : ℕ) → is_one_of (numbered_name x n) taken ≡ true → first_numbered (suc m) taken x n ≡ first_numbered m taken x (suc n)
first_numbered-suc m taken x n h = rw h refl

-- a number is taken
pub first_numbered-next : (taken : List (List ℕ)) (x : List ℕ) (n : ℕ) → n < length taken → is_one_of (numbered_name x n) taken ≡ true
    → first_numbered (length taken - (n + 1)) taken x (n + 1) ≡ first_numbered (length taken - n) taken x n
first_numbered-next taken x n lt h =
    let m = length taken - (n + 1) in
    let left : length taken - n ≡ suc m = omega arith in
    ap (λ j. first_numbered m taken x j) (add-one n) ∙ sym (first_numbered-suc m taken x n h) ∙ ap (λ j. first_numbered j taken x n) (sym left)
