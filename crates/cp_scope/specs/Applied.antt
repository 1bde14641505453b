-- Keys of names, and terms that are keys.
use Rattle.std.specs.Prelude.{ℕ, List, [], ◌∷◌, Bool, true, false, Option, Some, None}
use Rattle.cp_model.specs.Term.{pubk_term, asymmetric_term, AtomTerm, text_variable, datum_variable, name_variable, key_term, Term, tag_term, atom_term, pair_term, enc_term}
use Rattle.cp_sexpr.specs.Syntax.{Form, symbol, string, number, list}
use Rattle.cp_language.specs.Terms.{key_as_term, as_name}

abbrev pub is_key_atom : AtomTerm → Bool
is_key_atom (text_variable n) = false
is_key_atom (datum_variable n) = false
is_key_atom (name_variable n) = false
is_key_atom (key_term k) = true

abbrev pub is_name_atom : AtomTerm → Bool
is_name_atom (text_variable n) = false
is_name_atom (datum_variable n) = false
is_name_atom (name_variable n) = true
is_name_atom (key_term k) = false

-- The term is an atom for which the test holds.
abbrev pub is_such_atom : (AtomTerm → Bool) → Term → Bool
is_such_atom test (tag_term bytes) = false
is_such_atom test (atom_term a) = test a
is_such_atom test (pair_term a b) = false
is_such_atom test (enc_term a k) = false

-- The term is of sort name.
abbrev pub is_name : Term → Bool
is_name = is_such_atom is_name_atom

-- The term is a key.
abbrev pub is_key : Term → Bool
is_key = is_such_atom is_key_atom

-- The string that stands first.
abbrev pub purpose_in : List Form → Option (List ℕ)
purpose_in [] = None
purpose_in (symbol at t ∷ fs) = None
purpose_in (string at t ∷ fs) = Some t
purpose_in (number at n ∷ fs) = None
purpose_in (list at gs ∷ fs) = None

-- The key of the name among these terms, which the purpose stands before if there is one.
abbrev pub key_of_purpose : Bool → Option (List ℕ) → List Term → Term
key_of_purpose private (Some t) (s ∷ a ∷ ts) = key_as_term (asymmetric_term private (pubk_term (Some t) (as_name a)))
key_of_purpose private (Some t) _ = tag_term []
key_of_purpose private None (a ∷ ts) = key_as_term (asymmetric_term private (pubk_term None (as_name a)))
key_of_purpose private None [] = tag_term []
