-- Two numbers that are made of a term: one by which most different terms are told apart, and the greatest of its variables.
use Rattle.std.specs.Prelude.{◌+◌, ◌*◌, ◌%◌, ◌^◌, ℕ, List, [], ◌∷◌, Option, None, Some, true, false, max}
use Rattle.cp_model.specs.Term.{skey_variable, ltk_term, akey_variable, pubk_term, KeyTerm, symmetric_term, asymmetric_term, AtomTerm, text_variable, datum_variable, name_variable, key_term, Term, tag_term, atom_term, pair_term, enc_term}

-- m * (2 * m + 1), which differs for different m.
abbrev pub spread : ℕ → ℕ
spread m = (m * (((m * 2) % 2 ^ 64 + 1) % 2 ^ 64)) % 2 ^ 64

-- A number mixed from two, in this order.
abbrev pub mixed_with : ℕ → ℕ → ℕ
mixed_with n part = spread (((n * 1000003) % 2 ^ 64 + part) % 2 ^ 64)

-- A number mixed from a number and bytes, in order.
abbrev pub mixed_bytes : ℕ → List ℕ → ℕ
mixed_bytes n [] = n
mixed_bytes n (byte ∷ bytes) = mixed_bytes (mixed_with n byte) bytes

-- A number mixed from a number and bytes, if there are any.
abbrev pub mixed_purpose : ℕ → Option (List ℕ) → ℕ
mixed_purpose n None = n
mixed_purpose n (Some bytes) = mixed_bytes n bytes

-- The number of a key, of an atom, of a term.
abbrev pub number_of_key : KeyTerm → ℕ
number_of_key (symmetric_term (skey_variable n)) = mixed_with 5 n
number_of_key (symmetric_term (ltk_term a b)) = mixed_with (mixed_with 6 a) b
number_of_key (asymmetric_term false (akey_variable n)) = mixed_with 7 n
number_of_key (asymmetric_term true (akey_variable n)) = mixed_with 8 n
number_of_key (asymmetric_term false (pubk_term purpose a)) = mixed_purpose (mixed_with 9 a) purpose
number_of_key (asymmetric_term true (pubk_term purpose a)) = mixed_purpose (mixed_with 10 a) purpose

abbrev pub number_of_atom : AtomTerm → ℕ
number_of_atom (text_variable n) = mixed_with 2 n
number_of_atom (datum_variable n) = mixed_with 3 n
number_of_atom (name_variable n) = mixed_with 4 n
number_of_atom (key_term k) = number_of_key k

abbrev pub number_of_term : Term → ℕ
number_of_term (tag_term bytes) = mixed_bytes 1 bytes
number_of_term (atom_term a) = number_of_atom a
number_of_term (pair_term a b) = mixed_with (mixed_with 11 (number_of_term a)) (number_of_term b)
number_of_term (enc_term a k) = mixed_with (mixed_with 12 (number_of_term a)) (number_of_key k)

-- The greatest number of a variable of a key, of an atom, of a term; 0 if there is none.
abbrev pub top_of_key : KeyTerm → ℕ
top_of_key (symmetric_term (skey_variable n)) = n
top_of_key (symmetric_term (ltk_term a b)) = max a b
top_of_key (asymmetric_term flag (akey_variable n)) = n
top_of_key (asymmetric_term flag (pubk_term purpose a)) = a

abbrev pub top_of_atom : AtomTerm → ℕ
top_of_atom (text_variable n) = n
top_of_atom (datum_variable n) = n
top_of_atom (name_variable n) = n
top_of_atom (key_term k) = top_of_key k

abbrev pub top_of_term : Term → ℕ
top_of_term (tag_term bytes) = 0
top_of_term (atom_term a) = top_of_atom a
top_of_term (pair_term a b) = max (top_of_term a) (top_of_term b)
top_of_term (enc_term a k) = max (top_of_term a) (top_of_key k)
