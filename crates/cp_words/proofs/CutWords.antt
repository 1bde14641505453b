-- A word cut at its first equals sign.
use Rattle.std.proofs.Common.{◌≡◌, ℕ, ◌<◌, List, length, nat_lt, Option, Some, None, Bor, MatchOption, option_map, ap, arith, if◌then◌else◌}
use Rattle.std.specs.List.{position_or_len, before_first, after_first}
use Rattle.std.proofs.lemmas.Bool.{lt-ltb}
use Rattle.std.proofs.lemmas.Bool.Decides.{nat_tests}
use Rattle.std.proofs.lemmas.Str.Pattern.{IsSplitOnceResult, split_once_first}
use Rattle.cp_words.specs.CommandWords.{is_equals_sign, name_and_value}

none_where : {X : Type 0} (m n : ℕ) (x : X) → m ≡ n → None ≡ (if nat_lt m n then Some x else None)
none_where m n x e = grind (arith, nat_tests)

some_where : {X : Type 0} (m n : ℕ) (x y : X) → m < n → y ≡ x → Some y ≡ (if nat_lt m n then Some x else None)
some_where m n x y h e = rw (lt-ltb m n h) (ap Some e)

cut_at : (w : List ℕ) (r : Option (Bor (List ℕ) × Bor (List ℕ)))
    → MatchOption r (position_or_len is_equals_sign w ≡ length w) (λ x. (position_or_len is_equals_sign w < length w) × (x.0.now ≡ before_first is_equals_sign w) × (x.1.now ≡ after_first is_equals_sign w))
    → option_map (λ p. (p.0.now, p.1.now)) r ≡ name_and_value w
cut_at w None h = none_where _ _ _ h
cut_at w (Some p) h = some_where _ _ _ _ h.0 (cc)

pub word_cut : (w : List ℕ) (r : Option (Bor (List ℕ) × Bor (List ℕ))) → IsSplitOnceResult 61 w r → option_map (λ p. (p.0.now, p.1.now)) r ≡ name_and_value w
word_cut w r h = cut_at w r (split_once_first 61 w r h (omega arith))
