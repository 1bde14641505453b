-- What a pair or an encryption carries, its parts carry.
use Rattle.std.proofs.Common.{◌≢◌, inl, inr, sym}
use Rattle.cp_model.specs.Message.{Key, Message, pair, enc, IsCarriedBy}
use Rattle.cp_model.proofs.LawMessages.{carried_cases}

pub right_carries : (part left right : Message) → (IsCarriedBy part left → ⊥) → (pair left right ≢ part) → IsCarriedBy part (pair left right) → IsCarriedBy part right
right_carries part left right not_left other h = elim (carried_cases h) [
  | inl e ↦ absurd (other (sym e))
  | inr parts ↦ elim parts [ inl i ↦ absurd (not_left i) | inr i ↦ i ]
]

pub plaintext_carries : (part body : Message) (k : Key) → (enc body k ≢ part) → IsCarriedBy part (enc body k) → IsCarriedBy part body
plaintext_carries part body k other h = elim (carried_cases h) [ inl e ↦ absurd (other (sym e)) | inr i ↦ i ]
