-- What messages carry, and what the values of terms carry.
use Rattle.std.proofs.Common.{◌≡◌, ◌⊎◌, inl, inr, refl}
use Rattle.cp_model.specs.Message.{Message, tag, atom, pair, enc, IsCarriedBy, itself, in_left, in_right, in_plaintext}
use Rattle.cp_model.specs.Term.{AtomTerm, Term, atom_term, IsCarriedByTerm, itself_term, in_left_term, in_right_term, in_plaintext_term, Assignment, value_of_atom, value_of}

-- What carrying is, by the shape of the message.
abbrev pub Carries : Message → Message → Type 0
Carries v (tag bytes) = v ≡ tag bytes
Carries v (atom a) = v ≡ atom a
Carries v (pair a b) = (v ≡ pair a b) ⊎ (IsCarriedBy v a ⊎ IsCarriedBy v b)
Carries v (enc a k) = (v ≡ enc a k) ⊎ IsCarriedBy v a

carries_itself : (m : Message) → Carries m m
carries_itself (tag bytes) = refl
carries_itself (atom a) = refl
carries_itself (pair a b) = inl refl
carries_itself (enc a k) = inl refl

pub carries : {v m : Message} → IsCarriedBy v m → Carries v m
carries {v} itself = carries_itself v
carries (in_left h) = inr (inl h)
carries (in_right h) = inr (inr h)
carries (in_plaintext h) = inr h

-- The value of what a term carries is carried by the term's value.
pub carried_value : (g : Assignment) {v : AtomTerm} {t : Term} → IsCarriedByTerm (atom_term v) t → IsCarriedBy (atom (value_of_atom g v)) (value_of g t)
carried_value g itself_term = itself
carried_value g (in_left_term h) = in_left (carried_value g h)
carried_value g (in_right_term h) = in_right (carried_value g h)
carried_value g (in_plaintext_term h) = in_plaintext (carried_value g h)
