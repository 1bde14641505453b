-- Terms of some sorts, and what they are made of.
use Rattle.std.specs.Prelude.{◌≡◌, ℕ}
pub use Rattle.cp_model.specs.Term.{key_as_term}
use Rattle.cp_model.specs.Term.{KeyTerm, symmetric_term, skey_variable, AtomTerm, text_variable, datum_variable, name_variable, key_term, Term, tag_term, atom_term, pair_term, enc_term}

-- A variable of sort name, as a term.
abbrev pub name_of : ℕ → Term
name_of n = atom_term (name_variable n)

-- The term is a variable of sort name.
pub record IsName (t : Term) : Type 0 where
  pub number : ℕ
  pub named : t ≡ name_of number

-- The term is of sort skey or akey.
pub record IsKey (t : Term) : Type 0 where
  pub key : KeyTerm
  pub is_key : t ≡ key_as_term key

-- The key that an atom of sort skey or akey is; of any other it says nothing.
abbrev pub key_of_atom : AtomTerm → KeyTerm
key_of_atom (key_term k) = k
key_of_atom (text_variable n) = symmetric_term (skey_variable n)
key_of_atom (datum_variable n) = symmetric_term (skey_variable n)
key_of_atom (name_variable n) = symmetric_term (skey_variable n)

-- The same of a whole term.
abbrev pub key_of : Term → KeyTerm
key_of (atom_term a) = key_of_atom a
key_of (tag_term bytes) = symmetric_term (skey_variable 0)
key_of (pair_term a b) = symmetric_term (skey_variable 0)
key_of (enc_term a k) = symmetric_term (skey_variable 0)
