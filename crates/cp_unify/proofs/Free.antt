-- The assignment that gives each variable an atom with the variable's number: terms of the same value are equal.
use Rattle.std.proofs.Common.{◌≡◌, sym, ap, ◌∙◌}
use Rattle.cp_model.specs.Term.{AtomTerm, Term, Assignment, value_of_atom, value_of}
use Rattle.cp_term.specs.Code.{own_numbers, atom_from, atom_term_back, term_from, term_back}

abbrev pub free : Assignment
free = own_numbers

pub same_atoms : (u v : AtomTerm) → value_of_atom free u ≡ value_of_atom free v → u ≡ v
same_atoms u v e = sym (atom_term_back u) ∙ ap atom_from e ∙ atom_term_back v

pub same_terms : (s t : Term) → value_of free s ≡ value_of free t → s ≡ t
same_terms s t e = sym (term_back s) ∙ ap term_from e ∙ term_back t
