-- What a term carries, one of its parts carries, or it is it.
use Rattle.std.proofs.Common.{◌≡◌, ◌≢◌, ◌≤◌, inl, inr}
use Rattle.std.proofs.lemmas.Bool.{or_cases}
use Rattle.cp_model.specs.Term.{KeyTerm, Term, pair_term, enc_term, IsCarriedByTerm, itself_term, in_left_term, in_right_term, in_plaintext_term}
use Rattle.cp_model.proofs.CarriedParts.{made_carries, last_left}
use Rattle.cp_model.proofs.SameTests.{term_is, carried, is_carried}
use Rattle.cp_term.specs.Size.{term_size}

-- What the rest carries is all that is left to look for.
abbrev pub IsLeftToSearch : Term → Term → Term → Type 0
IsLeftToSearch part rest whole =
    (term_size rest ≤ term_size whole) × (IsCarriedByTerm part rest → IsCarriedByTerm part whole) × (IsCarriedByTerm part whole → IsCarriedByTerm part rest)

pub same_carries : (whole rest part : Term) → rest ≡ part → (IsCarriedByTerm part rest → IsCarriedByTerm part whole) → IsCarriedByTerm part whole
same_carries whole rest part e up = made_carries (IsCarriedByTerm part) whole rest part e itself_term up

pub left_carries : (whole rest part left right : Term) → rest ≡ pair_term left right → IsCarriedByTerm part left →
    (IsCarriedByTerm part rest → IsCarriedByTerm part whole) → IsCarriedByTerm part whole
left_carries whole rest part left right e h up = made_carries (IsCarriedByTerm part) whole rest (pair_term left right) e (in_left_term h) up

right_of : (part left right : Term) → (IsCarriedByTerm part left → ⊥) → (pair_term left right ≢ part) → IsCarriedByTerm part (pair_term left right) → IsCarriedByTerm part right
right_of part left right not_left other h = elim (or_cases _ _ (is_carried part (pair_term left right) h)) [
  | inl same ↦ absurd (other (term_is _ _ same))
  | inr below ↦ elim (or_cases _ _ below) [ inl l ↦ absurd (not_left (carried left part l)) | inr r ↦ carried right part r ]
]

-- Where a pair is not the part and its left part does not carry it, the right part is left.
pub pair_rest : (whole rest part left right : Term) → rest ≡ pair_term left right → rest ≢ part → (IsCarriedByTerm part left → ⊥) →
    (IsCarriedByTerm part rest → IsCarriedByTerm part whole) → (IsCarriedByTerm part whole → IsCarriedByTerm part rest) →
    (IsCarriedByTerm part right → IsCarriedByTerm part whole) × (IsCarriedByTerm part whole → IsCarriedByTerm part right)
pair_rest whole rest part left right e other not_left up down =
    last_left (IsCarriedByTerm part) whole rest part (pair_term left right) right e other in_right_term (right_of part left right not_left) up down

plaintext_of : (part body : Term) (k : KeyTerm) → (enc_term body k ≢ part) → IsCarriedByTerm part (enc_term body k) → IsCarriedByTerm part body
plaintext_of part body k other h = elim (or_cases _ _ (is_carried part (enc_term body k) h)) [
  | inl same ↦ absurd (other (term_is _ _ same))
  | inr below ↦ carried body part below
]

-- Where an encryption is not the part, the plaintext is left.
pub plaintext_rest : (whole rest part body : Term) (k : KeyTerm) → rest ≡ enc_term body k → rest ≢ part →
    (IsCarriedByTerm part rest → IsCarriedByTerm part whole) → (IsCarriedByTerm part whole → IsCarriedByTerm part rest) →
    (IsCarriedByTerm part body → IsCarriedByTerm part whole) × (IsCarriedByTerm part whole → IsCarriedByTerm part body)
plaintext_rest whole rest part body k e other up down =
    last_left (IsCarriedByTerm part) whole rest part (enc_term body k) body e other in_plaintext_term (plaintext_of part body k) up down
