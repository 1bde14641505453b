-- The right spine of a term.
use Rattle.std.specs.Prelude.{◌≡◌, List, [], ◌∷◌}
use Rattle.cp_model.specs.Term.{Term, tag_term, atom_term, pair_term, enc_term}

-- The right part of a pair, and the plaintext of an encryption.
abbrev pub tail_of : Term → Term
tail_of (pair_term a b) = b
tail_of (enc_term a k) = a
tail_of (tag_term bytes) = tag_term bytes
tail_of (atom_term u) = atom_term u

-- The term is a pair or an encryption.
abbrev pub HasTail : Term → Type 0
HasTail (pair_term a b) = Unit {0}
HasTail (enc_term a k) = Unit {0}
HasTail (tag_term bytes) = ⊥
HasTail (atom_term u) = ⊥

-- From t the spine leads through these terms, pairs and encryptions, each the tail of the one before, to the rest.
abbrev pub SpineLeads : List Term → Term → Term → Type 0
SpineLeads [] t rest = t ≡ rest
SpineLeads (f ∷ fs) t rest = (t ≡ f) × HasTail f × SpineLeads fs (tail_of f) rest
