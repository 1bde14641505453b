-- Words that a test finds proper are proper; so are proper texts with bytes of tokens behind them, and lists that are put together.
use Rattle.std.proofs.Common.{◌≡◌, ℕ, zero, suc, ◌+◌, ◌<◌, ◌/◌, ◌%◌, ◌==◌, ◌&&◌, List, [], ◌∷◌, ◌++◌, Bool, true, false, refl, arith, if◌then◌else◌, decimal}
use Rattle.std.specs.Prelude.{map, not, nat_lt, nat_le}
use Rattle.std.specs.List.{AllByRecursion}
use Rattle.std.specs.Fmt.{digit_glyph, digits_onto, digits}
use Rattle.std.proofs.lemmas.Bool.{and_parts}
use Rattle.std.proofs.lemmas.Bool.Decides.{nat_tests}
use Rattle.cp_lists.specs.Lists.{IsIn, here, there}
use Rattle.cp_sexpr.specs.Syntax.{Form, Forms, none, more, forms_of, append}
use Rattle.cp_sexpr.specs.Pieces.{IsTokenByte}
use Rattle.cp_language.specs.Printed.{numeral}
use Rattle.cp_printable.specs.Proper.{IsSymbolText, IsProper, AreProper}

-- ---- words

abbrev pub is_token_byte : ℕ → Bool
is_token_byte b = (nat_le 33 b && nat_le b 126) && ((not (b == 40) && not (b == 41)) && (not (b == 34) && not (b == 59)))

-- All are bytes of tokens.
abbrev pub are_token_bytes : List ℕ → Bool
are_token_bytes [] = true
are_token_bytes (b ∷ bs) = is_token_byte b && are_token_bytes bs

-- The first byte is no digit, and all are bytes of tokens.
abbrev pub is_word : List ℕ → Bool
is_word [] = false
is_word (b ∷ bs) = nat_lt 57 b && are_token_bytes (b ∷ bs)

token_byte : (b : ℕ) → is_token_byte b ≡ true → IsTokenByte b
token_byte b e = grind (arith, nat_tests)

pub token_bytes : (t : List ℕ) → are_token_bytes t ≡ true → AllByRecursion IsTokenByte t
token_bytes [] e = tt
token_bytes (b ∷ bs) e = let h = and_parts (is_token_byte b) (are_token_bytes bs) e in (token_byte b h.0, token_bytes bs h.1)

pub proper_word : (t : List ℕ) → is_word t ≡ true → IsSymbolText t
proper_word [] e = absurd (cc)
proper_word (b ∷ bs) e =
    let h = and_parts (nat_lt 57 b) (are_token_bytes (b ∷ bs)) e in
    let above : nat_lt 57 b ≡ true = h.0 in
    ((omega arith, token_bytes (b ∷ bs) h.1), λ d. grind (arith, nat_tests))

-- ---- bytes behind a text

tokens_append : (s t : List ℕ) → AllByRecursion IsTokenByte s → AllByRecursion IsTokenByte t → AllByRecursion IsTokenByte (s ++ t)
tokens_append [] t p q = q
tokens_append (b ∷ s) t p q = (p.0, tokens_append s t p.1 q)

-- A proper text with bytes of tokens behind it is proper.
pub proper_behind : (s t : List ℕ) → IsSymbolText s → AllByRecursion IsTokenByte t → IsSymbolText (s ++ t)
proper_behind [] t p q = let some : 0 < 0 = p.0.0 in absurd (omega arith)
proper_behind (b ∷ s) t p q = ((omega arith, tokens_append (b ∷ s) t p.0.1 q), p.1)

glyph_is_token : (d : ℕ) → d < 10 → IsTokenByte (digit_glyph false d)
glyph_is_token d l = by (nat_lt d 10) refl
  where
    by : (b : Bool) → nat_lt d 10 ≡ b → IsTokenByte (if b then 48 + d else 87 + d)
    by true e = grind arith
    by false e = absurd (grind (arith, nat_tests))

digits_are_tokens : (k n : ℕ) (behind : List ℕ) → AllByRecursion IsTokenByte behind → AllByRecursion IsTokenByte (digits_onto k 10 false n behind)
digits_are_tokens zero n behind p = p
digits_are_tokens (suc k) n behind p = by (n / 10 == 0) (digits_are_tokens k (n / 10) (digit_glyph false (n % 10) ∷ behind) more)
  where
    more : AllByRecursion IsTokenByte (digit_glyph false (n % 10) ∷ behind)
    more = (glyph_is_token (n % 10) (omega arith), p)

    by : (b : Bool) → AllByRecursion IsTokenByte (digits_onto k 10 false (n / 10) (digit_glyph false (n % 10) ∷ behind))
        → AllByRecursion IsTokenByte (if b then digit_glyph false (n % 10) ∷ behind else digits_onto k 10 false (n / 10) (digit_glyph false (n % 10) ∷ behind))
    by true rest = more
    by false rest = rest

-- The decimal digits of a number are bytes of tokens.
pub decimal_is_token : (n : ℕ) → AllByRecursion IsTokenByte (decimal n)
unfolding digits
decimal_is_token n = digits_are_tokens 64 n [] tt

-- ---- lists of forms

-- The forms of a list are proper.
abbrev pub AreProperForms : List Form → Type 0
AreProperForms fs = AreProper (forms_of fs)

pub proper_append : (fs gs : List Form) → AreProperForms fs → AreProperForms gs → AreProperForms (fs ++ gs)
proper_append [] gs p q = q
proper_append (f ∷ fs) gs p q = (p.0, proper_append fs gs p.1 q)

pub proper_last : (fs : Forms) (f : Form) → AreProper fs → IsProper f → AreProper (append fs (more f none))
proper_last none f p q = (q, tt)
proper_last (more g fs) f p q = (p.0, proper_last fs f p.1 q)

pub proper_map : {A : Type 0} (f : A → Form) (xs : List A) → ((x : A) → IsIn x xs → IsProper (f x)) → AreProperForms (map f xs)
proper_map f [] each = tt
proper_map f (x ∷ xs) each = (each x here, proper_map f xs (λ y m. each y (there m)))

pub proper_numbers : (ns : List ℕ) → AreProperForms (map numeral ns)
proper_numbers ns = proper_map numeral ns (λ n m. tt)
