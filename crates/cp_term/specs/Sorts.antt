-- The sorts of terms.
use Rattle.std.specs.Prelude.{Bool, true, false}
use Rattle.cp_model.specs.Term.{symmetric_term, asymmetric_term, AtomTerm, text_variable, datum_variable, name_variable, key_term, Term, tag_term, atom_term, pair_term, enc_term}
use Rattle.cp_model.specs.declared.sort.Sort.{Sort}
use Rattle.cp_model.specs.declared.sort.Sort.TheVariants.{Text, Datum, Name, Skey, Akey}

-- The atom is of this sort.
abbrev pub is_atom_of_sort : Sort → AtomTerm → Bool
is_atom_of_sort Text (text_variable n) = true
is_atom_of_sort Datum (datum_variable n) = true
is_atom_of_sort Name (name_variable n) = true
is_atom_of_sort Skey (key_term (symmetric_term k)) = true
is_atom_of_sort Akey (key_term (asymmetric_term flag k)) = true
is_atom_of_sort _ _ = false

-- The term is of this sort of atoms.
abbrev pub is_of_sort : Sort → Term → Bool
is_of_sort s (atom_term a) = is_atom_of_sort s a
is_of_sort s (tag_term bytes) = false
is_of_sort s (pair_term a b) = false
is_of_sort s (enc_term a k) = false
