-- What is written of a number, however great it is: digits, and nine at most only where it is below 10 ^ 9.
use Rattle.std.proofs.Common.{◌≡◌, ℕ, zero, suc, ◌+◌, ◌/◌, ◌%◌, ◌^◌, ◌<◌, ◌≤◌, List, [], ◌∷◌, length, Bool, true, false, cond, eqb, eqb-true, lt-ltb, refl, sym, ap, subst, arith, decimal, lit<}
use Rattle.std.specs.Fmt.{digits, digits_onto, digit_glyph}
use Rattle.std.specs.List.{AllByRecursion}
use Rattle.std.proofs.Math.Nat.{pow-le-pow_right}
use Rattle.cp_sexpr.specs.Pieces.{IsTokenByte, IsToken}
use Rattle.cp_sexpr.specs.Written.{IsDigit, BeginsWithDigit}

-- ---- digits in front of others

-- the last digit
abbrev last : ℕ → ℕ
last n = digit_glyph false (n % 10)

last_is_digit : (n : ℕ) → IsDigit (last n)
last_is_digit n =
    let e : last n ≡ 48 + n % 10 = ap (λ b. cond b (48 + n % 10) (87 + n % 10)) (lt-ltb (n % 10) 10 (omega arith)) in
    subst IsDigit (sym e) (omega arith, omega arith)

each_digit_of : (b : Bool) (xs ys : List ℕ) → AllByRecursion IsDigit xs → AllByRecursion IsDigit ys → AllByRecursion IsDigit (cond b xs ys)
each_digit_of true xs ys p q = p
each_digit_of false xs ys p q = q

each_digit : (k n : ℕ) (others : List ℕ) → AllByRecursion IsDigit others → AllByRecursion IsDigit (digits_onto k 10 false n others)
each_digit zero n others all = all
each_digit (suc k) n others all =
    each_digit_of (eqb (n / 10) 0) (last n ∷ others) (digits_onto k 10 false (n / 10) (last n ∷ others)) (last_is_digit n, all) (each_digit k (n / 10) (last n ∷ others) (last_is_digit n, all))

not_fewer_of : (b : Bool) (m : ℕ) (xs ys : List ℕ) → m ≤ length xs → m ≤ length ys → m ≤ length (cond b xs ys)
not_fewer_of true m xs ys p q = p
not_fewer_of false m xs ys p q = q

one_more_of : (k n : ℕ) (others : List ℕ) → length (last n ∷ others) ≤ length (digits_onto k 10 false (n / 10) (last n ∷ others)) → length others < length (digits_onto (suc k) 10 false n others)
one_more_of k n others h = not_fewer_of (eqb (n / 10) 0) (suc (length others)) (last n ∷ others) (digits_onto k 10 false (n / 10) (last n ∷ others)) (omega arith) (omega (arith, h))

not_fewer : (k n : ℕ) (others : List ℕ) → length others ≤ length (digits_onto k 10 false n others)
not_fewer zero n others = omega arith
not_fewer (suc k) n others = omega (arith, one_more_of k n others (not_fewer k (n / 10) (last n ∷ others)))

one_more : (k n : ℕ) (others : List ℕ) → length others < length (digits_onto (suc k) 10 false n others)
one_more k n others = one_more_of k n others (not_fewer k (n / 10) (last n ∷ others))

small_of : (b : Bool) (n j m : ℕ) (xs ys : List ℕ) → eqb n 0 ≡ b → (length ys ≤ m → n < 10 ^ j) → length (cond b xs ys) ≤ m → n < 10 ^ j
small_of true n j m xs ys e later few =
    let none : 0 ≤ j = omega arith in
    let some : 10 ^ 0 ≤ 10 ^ j = pow-le-pow_right (lit< tt) none in
    omega (arith, eqb-true n 0 e, some)
small_of false n j m xs ys e later few = later few

-- a number of which so few digits are written is that small
small : (k n j : ℕ) (others : List ℕ) → j < k → length (digits_onto k 10 false n others) ≤ length others + j → n < 10 ^ j
small zero n j others fewer few = absurd (omega arith)
small (suc k) n zero others fewer few = absurd (omega (arith, one_more k n others, few))
small (suc k) n (suc j) others fewer few =
    let later : length (digits_onto k 10 false (n / 10) (last n ∷ others)) ≤ length others + suc j → n / 10 < 10 ^ j = λ h. small k (n / 10) j (last n ∷ others) (omega arith) (omega (arith, h)) in
    omega (arith, small_of (eqb (n / 10) 0) (n / 10) j (length others + suc j) (last n ∷ others) (digits_onto k 10 false (n / 10) (last n ∷ others)) refl later few)

-- ---- what is written of a number

pub decimal_digits : (n : ℕ) → AllByRecursion IsDigit (decimal n)
unfolding digits
decimal_digits n = each_digit 64 n [] tt

pub decimal_not_empty : (n : ℕ) → 0 < length (decimal n)
unfolding digits
decimal_not_empty n = one_more 63 n []

pub nine_digits : (n : ℕ) → length (decimal n) ≤ 9 → n < 10 ^ 9
unfolding digits
nine_digits n few = small 64 n 9 [] (omega arith) few

-- ---- as a token

token_bytes : (t : List ℕ) → AllByRecursion IsDigit t → AllByRecursion IsTokenByte t
token_bytes [] h = tt
token_bytes (b ∷ t) h = ((omega arith, omega arith, (λ e. omega (arith, e)), (λ e. omega (arith, e)), (λ e. omega (arith, e)), (λ e. omega (arith, e))), token_bytes t h.1)

pub decimal_is_token : (n : ℕ) → IsToken (decimal n)
decimal_is_token n = (decimal_not_empty n, token_bytes (decimal n) (decimal_digits n))

begins : (t : List ℕ) → 0 < length t → AllByRecursion IsDigit t → BeginsWithDigit t
begins [] some h = absurd (omega arith)
begins (b ∷ t) some h = h.0

pub decimal_begins_with_digit : (n : ℕ) → BeginsWithDigit (decimal n)
decimal_begins_with_digit n = begins (decimal n) (decimal_not_empty n) (decimal_digits n)
