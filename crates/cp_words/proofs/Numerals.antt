-- The numbers that `u32::from_str` reads.
use Rattle.std.proofs.Common.{◌≡◌, ℕ, ◌^◌, List, [], ◌∷◌, Bool, true, false, ◌&&◌, Some, None, Result, Ok, Err, refl, ap, arith, if◌then◌else◌}
use Rattle.std.specs.Result.{result_ok}
use Rattle.std.specs.Str.{all_ascii_digits}
use Rattle.std.specs.Str.Parse.{IsNumeral, ParsesUnsigned, without_leading_plus, digits_value}
use Rattle.std.proofs.lemmas.Bool.{ltb-true, lt-ltb}
use Rattle.std.proofs.lemmas.Str.Parse.{numerals_by_value, tells_all_ascii_digits}
use Rattle.cp_words.specs.CommandWords.{is_numeral, parsed_number}

numeral_is : (ds : List ℕ) → IsNumeral 10 ds → is_numeral ds ≡ true
numeral_is [] h = absurd (omega (arith, h.0))
numeral_is (d ∷ ds) h = (numerals_by_value (λ ds. all_ascii_digits ds ≡ true) tells_all_ascii_digits).from (d ∷ ds) h.1

numeral_from : (ds : List ℕ) → is_numeral ds ≡ true → IsNumeral 10 ds
numeral_from [] e = absurd (cc)
numeral_from (d ∷ ds) e = (omega arith, (numerals_by_value (λ ds. all_ascii_digits ds ≡ true) tells_all_ascii_digits).to (d ∷ ds) e)

some_where : {X : Type 0} (a b : Bool) (x y : X) → a ≡ true → b ≡ true → y ≡ x → Some y ≡ (if a && b then Some x else None)
some_where true true x y p q e = ap Some e
some_where true false x y p q e = absurd (cc)
some_where false b x y p q e = absurd (cc)

none_where : {X : Type 0} (a b : Bool) (x : X) → (a ≡ true → b ≡ true → ⊥) → None ≡ (if a && b then Some x else None)
none_where true true x h = absurd (h refl refl)
none_where true false x h = refl
none_where false b x h = refl

pub number_parsed : {E : Type 0} (t : List ℕ) (r : Result ℕ E) → ParsesUnsigned 32 10 t r → result_ok r ≡ parsed_number t
number_parsed t (Ok n) h =
    let ds = without_leading_plus t in
    some_where _ _ _ n (numeral_is ds h.0.0) (lt-ltb (digits_value 10 ds) (2 ^ 32) h.0.1) h.1
number_parsed t (Err e) h =
    let ds = without_leading_plus t in
    none_where _ _ _ (λ p q. h (numeral_from ds p, ltb-true (digits_value 10 ds) (2 ^ 32) q))
