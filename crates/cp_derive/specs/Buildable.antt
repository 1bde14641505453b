-- What can be built from terms that are held, without taking any apart.
use Rattle.std.specs.Prelude.{◌⊎◌, List}
use Rattle.cp_lists.specs.Lists.{IsIn}
use Rattle.cp_model.specs.Term.{AtomTerm, key_term, KeyTerm, inverse_term, Term, tag_term, atom_term, pair_term, enc_term}
use Rattle.cp_derive.specs.Given.{Given, IsDerivable}

-- The term is held, or is not secret.
abbrev pub IsAtHand : List Term → List Term → Term → Type 0
IsAtHand secrets held t = IsIn t held ⊎ (IsIn t secrets → ⊥)

-- An atom can be made where it is at hand.
abbrev pub BuildsAtom : List Term → List Term → AtomTerm → Type 0
BuildsAtom secrets held a = IsAtHand secrets held (atom_term a)

-- A term is built: from its parts, or, where it is no pair, it is held.
abbrev pub Builds : List Term → List Term → Term → Type 0
Builds secrets held (tag_term bytes) = Unit {0}
Builds secrets held (atom_term a) = BuildsAtom secrets held a
Builds secrets held (pair_term a b) = Builds secrets held a × Builds secrets held b
Builds secrets held (enc_term a k) = IsIn (enc_term a k) held ⊎ (Builds secrets held a × BuildsAtom secrets held (key_term k))

-- What is held is all that is needed: it can be derived, what was sent can be built from it, and so can the plaintext
-- of each encryption in it whose inverse key can be built.
pub record IsClosedUnderParts (g : Given) (held : List Term) : Type 0 where
  pub derivable : (t : Term) → IsIn t held → IsDerivable g t
  pub sent : (t : Term) → IsIn t g.sent → Builds g.secrets held t
  pub opened : (a : Term) (k : KeyTerm) → IsIn (enc_term a k) held → BuildsAtom g.secrets held (key_term (inverse_term k)) → Builds g.secrets held a
