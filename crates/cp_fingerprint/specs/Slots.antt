-- A value at a place, and the number by which most values are told apart.
use Rattle.std.specs.Prelude.{ℕ, refl}
use Rattle.std.specs.Coded.{Coded, code_by, coded_ℕ, coded×}
use Rattle.cp_model.specs.Term.{skey_variable, ltk_term, akey_variable, pubk_term, symmetric_term, asymmetric_term, text_variable, datum_variable, name_variable, key_term, Term, tag_term, atom_term, pair_term, enc_term}
use Rattle.cp_term.specs.Code.{coded_term}

-- A value at a place, with the weight of the place.
pub record Slot : Type 0 where
  pub weight : ℕ
  pub value : Term

abbrev pub coded_slot : Coded Slot
coded_slot = code_by (ℕ × Term) (coded× coded_ℕ coded_term) (λ x. (x.weight, x.value)) (λ p. record { weight = p.0; value = p.1 }) (λ _. refl)

-- The number of the variable that the value is, or of the first variable of the atom that it is; 0 for any other. The definitions
-- that use places do not speak of it.
abbrev pub slot_key : Term → ℕ
slot_key (atom_term (text_variable n)) = n
slot_key (atom_term (datum_variable n)) = n
slot_key (atom_term (name_variable n)) = n
slot_key (atom_term (key_term (symmetric_term (skey_variable n)))) = n
slot_key (atom_term (key_term (symmetric_term (ltk_term a b)))) = a
slot_key (atom_term (key_term (asymmetric_term flag (akey_variable n)))) = n
slot_key (atom_term (key_term (asymmetric_term flag (pubk_term purpose a)))) = a
slot_key (tag_term bytes) = 0
slot_key (pair_term t u) = 0
slot_key (enc_term t k) = 0
