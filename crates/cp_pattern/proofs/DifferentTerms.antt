-- Terms that no values make one.
use Rattle.std.proofs.Common.{◌≡◌, true, false, sym, ⊎_elim}
use Rattle.std.proofs.lemmas.Bool.{and_cases}
use Rattle.cp_model.specs.Term.{KeyTerm, symmetric_term, asymmetric_term, AtomTerm, text_variable, datum_variable, name_variable, key_term, Term, tag_term, atom_term, pair_term, enc_term, Assignment, value_of, value_of_key, value_of_atom}
use Rattle.cp_model.proofs.CarriedParts.{not_both}
use Rattle.cp_term.proofs.SameTerms.{bytes_Decides}
use Rattle.cp_pattern.specs.Candidates.{is_same_key_sort, is_same_sort, may_equal}
use Rattle.cp_pattern.specs.Unifiers.{NeverEqual}

keys_differ : (k j : KeyTerm) (g : Assignment) → is_same_key_sort k j ≡ false → value_of_key g j ≡ value_of_key g k → ⊥
keys_differ (symmetric_term k) (symmetric_term j) g e q = let no : true ≡ false = e in absurd (cc)
keys_differ (asymmetric_term f k) (asymmetric_term h j) g e q = let no : true ≡ false = e in absurd (cc)
keys_differ (symmetric_term k) (asymmetric_term h j) g e q = absurd (cc)
keys_differ (asymmetric_term f k) (symmetric_term j) g e q = absurd (cc)

atoms_differ : (a b : AtomTerm) (g : Assignment) → is_same_sort a b ≡ false → value_of_atom g b ≡ value_of_atom g a → ⊥
atoms_differ (text_variable m) (text_variable n) g e q = let no : true ≡ false = e in absurd (cc)
atoms_differ (datum_variable m) (datum_variable n) g e q = let no : true ≡ false = e in absurd (cc)
atoms_differ (name_variable m) (name_variable n) g e q = let no : true ≡ false = e in absurd (cc)
atoms_differ (key_term k) (key_term j) g e q = keys_differ k j g e (let same : value_of_key g j ≡ value_of_key g k = cc in same)
atoms_differ _ _ g e q = absurd (cc)

-- What could not be equal never is.
pub never_equal : (c t : Term) → may_equal c t ≡ false → NeverEqual t c
never_equal (tag_term x) (tag_term y) e g q = let same : y ≡ x = cc in not_both e ((bytes_Decides x y).1 (sym same))
never_equal (atom_term a) (atom_term b) e g q = atoms_differ a b g e (let same : value_of_atom g b ≡ value_of_atom g a = cc in same)
never_equal (pair_term a b) (pair_term c d) e g q =
    ⊎_elim (λ f. never_equal a c f g (let same : value_of g c ≡ value_of g a = cc in same))
    (λ f. never_equal b d f g (let same : value_of g d ≡ value_of g b = cc in same))
    (and_cases (may_equal a c) (may_equal b d) e)
never_equal (enc_term a j) (enc_term b k) e g q =
    ⊎_elim (λ f. keys_differ j k g f (let same : value_of_key g k ≡ value_of_key g j = cc in same))
    (λ f. never_equal a b f g (let same : value_of g b ≡ value_of g a = cc in same))
    (and_cases (is_same_key_sort j k) (may_equal a b) e)
never_equal _ _ e g q = absurd (cc)
