-- Whether bytes may stand in quotes is decided byte by byte.
use Rattle.std.proofs.Common.{ℕ, List, [], ◌∷◌, ◌⊎◌, inl, inr, ⊎_elim, arith}
use Rattle.cp_sexpr.specs.Pieces.{IsStringByte}
use Rattle.cp_printable.specs.Proper.{IsStringText}

string_byte_or_not : (b : ℕ) → IsStringByte b ⊎ (IsStringByte b → ⊥)
string_byte_or_not b = grind arith

pub string_text_or_not : (t : List ℕ) → IsStringText t ⊎ (IsStringText t → ⊥)
string_text_or_not [] = inl tt
string_text_or_not (b ∷ t) = ⊎_elim (λ h. ⊎_elim (λ g. inl (h, g)) (λ other. inr (λ all. other all.1)) (string_text_or_not t)) (λ other. inr (λ all. other all.0)) (string_byte_or_not b)
