-- Terms that are atoms.
use Rattle.std.specs.Prelude.{Bool, true, false}
use Rattle.cp_model.specs.Term.{AtomTerm, text_variable, Term, tag_term, atom_term, pair_term, enc_term}

-- The atom that a term is; of any other term it says nothing.
abbrev pub atom_of : Term → AtomTerm
atom_of (atom_term a) = a
atom_of (tag_term bytes) = text_variable 0
atom_of (pair_term a b) = text_variable 0
atom_of (enc_term a k) = text_variable 0

-- The term is an atom.
abbrev pub is_atom : Term → Bool
is_atom (atom_term a) = true
is_atom (tag_term bytes) = false
is_atom (pair_term a b) = false
is_atom (enc_term a k) = false
