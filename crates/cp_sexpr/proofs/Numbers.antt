-- The value of digits.
use Rattle.std.proofs.Common.{◌≡◌, ℕ, zero, suc, ◌+◌, ◌-◌, ◌*◌, ◌<◌, ◌≤◌, ◌^◌, List, [], ◌∷◌, length, get_or, take, ap, ◌∙◌, arith, length-take, lit<, take_all}
use Rattle.std.specs.Char.{digit_value}
use Rattle.std.specs.Str.Parse.{digits_value, AllDigits}
use Rattle.std.proofs.lemmas.Bool.Decides.{nat_tests}
use Rattle.std.proofs.lemmas.Int.Digits.{digits_value-lt, digits_value_more}
use Rattle.std.proofs.Math.Nat.{pow-le-pow_right}
use Rattle.cp_sexpr.specs.Written.{IsDigit, value}

pub digit_value-digit : (b : ℕ) → IsDigit b → digit_value b ≡ b - 48
digit_value-digit b h = grind (arith, nat_tests)

pub AllDigits-take : (t : List ℕ) (n : ℕ) → ((k : ℕ) → k < n → IsDigit (get_or t k 0)) → AllDigits 10 (take n t)
AllDigits-take [] zero h = tt
AllDigits-take [] (suc n) h = tt
AllDigits-take (b ∷ t) zero h = tt
AllDigits-take (b ∷ t) (suc n) h =
    let d = h zero (omega arith) in
    let e = digit_value-digit b d in
    (omega arith, AllDigits-take t n (λ k l. h (suc k) (omega arith)))

pub value_small : (t : List ℕ) (n : ℕ) → n ≤ length t → n < 9 → ((k : ℕ) → k < n → IsDigit (get_or t k 0)) → digits_value 10 (take n t) < 10 ^ 8
value_small t n short few h =
    let b = digits_value-lt 10 (take n t) (AllDigits-take t n h) in
    let l : length (take n t) ≡ n = simp length-take (omega arith) in
    let few' : n ≤ 8 = omega arith in
    let p : 10 ^ n ≤ 10 ^ 8 = pow-le-pow_right (lit< tt) few' in
    let q : digits_value 10 (take n t) < 10 ^ n = rw l at b in
    omega (arith, p, q)

pub value_more : (t : List ℕ) (i n d : ℕ) → i < length t → IsDigit (get_or t i 0) → n ≡ digits_value 10 (take i t) → d ≡ get_or t i 0 - 48 → n * 10 + d ≡ digits_value 10 (take (i + 1) t)
value_more t i n d h digit before last =
    let e = digits_value_more 10 t i h in
    let v = digit_value-digit (get_or t i 0) digit in
    omega (arith, e, v)

pub value_all : (t : List ℕ) (i n : ℕ) → length t ≤ i → n ≡ digits_value 10 (take i t) → n ≡ value t
value_all t i n h e = e ∙ ap (digits_value 10) (take_all i t h)
