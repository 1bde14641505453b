-- The strings in terms: tags, and the purposes of keys.
use Rattle.std.specs.Prelude.{ℕ, List, [], ◌∷◌, ◌++◌, Option, Some, None}
use Rattle.cp_model.specs.Term.{PairTerm, akey_variable, pubk_term, KeyTerm, symmetric_term, asymmetric_term, AtomTerm, text_variable, datum_variable, name_variable, key_term, Term, tag_term, atom_term, pair_term, enc_term}

abbrev pub strings_of_purpose : Option (List ℕ) → List (List ℕ)
strings_of_purpose None = []
strings_of_purpose (Some t) = t ∷ []

abbrev pub strings_of_pair : PairTerm → List (List ℕ)
strings_of_pair (akey_variable n) = []
strings_of_pair (pubk_term purpose a) = strings_of_purpose purpose

abbrev pub strings_of_key : KeyTerm → List (List ℕ)
strings_of_key (symmetric_term k) = []
strings_of_key (asymmetric_term flag k) = strings_of_pair k

abbrev pub strings_of_atom : AtomTerm → List (List ℕ)
strings_of_atom (text_variable n) = []
strings_of_atom (datum_variable n) = []
strings_of_atom (name_variable n) = []
strings_of_atom (key_term k) = strings_of_key k

-- The strings of a term, from left to right.
abbrev pub strings_of : Term → List (List ℕ)
strings_of (tag_term t) = t ∷ []
strings_of (atom_term a) = strings_of_atom a
strings_of (pair_term a b) = strings_of a ++ strings_of b
strings_of (enc_term a k) = strings_of a ++ strings_of_key k
