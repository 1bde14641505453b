-- What could equal a term of a sort of atoms are the terms of this sort.
use Rattle.std.proofs.Common.{◌≡◌, ℕ, Bool, false, refl, sym, ap, ◌∙◌}
use Rattle.cp_model.specs.Term.{SymmetricTerm, skey_variable, PairTerm, akey_variable, symmetric_term, asymmetric_term, AtomTerm, text_variable, datum_variable, name_variable, key_term, Term, tag_term, atom_term, pair_term, enc_term, atom_of_variable}
use Rattle.cp_term.specs.Keys.{key_as_term}
use Rattle.cp_term.specs.Sorts.{is_atom_of_sort, is_of_sort}
use Rattle.cp_term.specs.Variables.{variable_of_sort}
use Rattle.cp_model.specs.declared.sort.Sort.{Sort}
use Rattle.cp_model.specs.declared.sort.Sort.TheVariants.{Text, Datum, Name, Skey, Akey}
use Rattle.cp_pattern.specs.Candidates.{is_same_sort, may_equal}

-- The atoms of a sort are those that have the sort of a variable, or of any key, of this sort.
asymmetric_sort : (g : Bool) (j : PairTerm) (a : AtomTerm) → is_atom_of_sort Akey a ≡ is_same_sort (key_term (asymmetric_term g j)) a
asymmetric_sort g j (text_variable n) = refl
asymmetric_sort g j (datum_variable n) = refl
asymmetric_sort g j (name_variable n) = refl
asymmetric_sort g j (key_term (symmetric_term h)) = refl
asymmetric_sort g j (key_term (asymmetric_term e h)) = refl

symmetric_sort : (j : SymmetricTerm) (a : AtomTerm) → is_atom_of_sort Skey a ≡ is_same_sort (key_term (symmetric_term j)) a
symmetric_sort j (text_variable n) = refl
symmetric_sort j (datum_variable n) = refl
symmetric_sort j (name_variable n) = refl
symmetric_sort j (key_term (symmetric_term h)) = refl
symmetric_sort j (key_term (asymmetric_term e h)) = refl

sort_of_variable : (s : Sort) (n : ℕ) (a : AtomTerm) → is_atom_of_sort s a ≡ is_same_sort (atom_of_variable (record { sort = s; number = n })) a
sort_of_variable Skey n a = symmetric_sort (skey_variable n) a
sort_of_variable Akey n a = asymmetric_sort false (akey_variable n) a
sort_of_variable Text n (text_variable m) = refl
sort_of_variable Text n (datum_variable m) = refl
sort_of_variable Text n (name_variable m) = refl
sort_of_variable Text n (key_term (symmetric_term k)) = refl
sort_of_variable Text n (key_term (asymmetric_term f k)) = refl
sort_of_variable Datum n (text_variable m) = refl
sort_of_variable Datum n (datum_variable m) = refl
sort_of_variable Datum n (name_variable m) = refl
sort_of_variable Datum n (key_term (symmetric_term k)) = refl
sort_of_variable Datum n (key_term (asymmetric_term f k)) = refl
sort_of_variable Name n (text_variable m) = refl
sort_of_variable Name n (datum_variable m) = refl
sort_of_variable Name n (name_variable m) = refl
sort_of_variable Name n (key_term (symmetric_term k)) = refl
sort_of_variable Name n (key_term (asymmetric_term f k)) = refl

-- A term whose atom has this sort.
by_sort : (s : Sort) (u : AtomTerm) → ((a : AtomTerm) → is_atom_of_sort s a ≡ is_same_sort u a) → (t : Term) → is_of_sort s t ≡ may_equal (atom_term u) t
by_sort s u same (tag_term bytes) = refl
by_sort s u same (atom_term a) = same a
by_sort s u same (pair_term a b) = refl
by_sort s u same (enc_term a k) = refl

pub variable_candidate : (answer : Bool) (c t : Term) (s : Sort) (n : ℕ) → answer ≡ is_of_sort s t → c ≡ variable_of_sort s n → answer ≡ may_equal c t
variable_candidate answer c t s n e is = e ∙ by_sort s (atom_of_variable (record { sort = s; number = n })) (sort_of_variable s n) t ∙ sym (ap (λ (u : Term). may_equal u t) is)

pub akey_candidate : (answer : Bool) (c t : Term) (g : Bool) (j : PairTerm) → answer ≡ is_of_sort Akey t → c ≡ key_as_term (asymmetric_term g j) → answer ≡ may_equal c t
akey_candidate answer c t g j e is = e ∙ by_sort Akey (key_term (asymmetric_term g j)) (asymmetric_sort g j) t ∙ sym (ap (λ (u : Term). may_equal u t) is)

pub skey_candidate : (answer : Bool) (c t : Term) (j : SymmetricTerm) → answer ≡ is_of_sort Skey t → c ≡ key_as_term (symmetric_term j) → answer ≡ may_equal c t
skey_candidate answer c t j e is = e ∙ by_sort Skey (key_term (symmetric_term j)) (symmetric_sort j) t ∙ sym (ap (λ (u : Term). may_equal u t) is)
