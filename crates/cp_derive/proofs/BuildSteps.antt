-- The steps by which it is decided whether a term can be built: what is left to decide is as good as the whole.
use Rattle.std.proofs.Common.{List, ◌≡◌, inl, inr, sym, subst}
use Rattle.cp_lists.specs.Lists.{IsIn}
use Rattle.cp_model.specs.Term.{AtomTerm, KeyTerm, Term, atom_term, enc_term}
use Rattle.cp_term.specs.Keys.{key_as_term}
use Rattle.cp_derive.specs.Buildable.{IsAtHand, Builds}

module _ (secrets held : List Term) (whole rest : Term) where
  pub atom_builds : (a : AtomTerm) → rest ≡ atom_term a → (Builds secrets held rest → Builds secrets held whole) → IsAtHand secrets held rest → Builds secrets held whole
  atom_builds a e up h = up (subst (Builds secrets held) (sym e) (subst (IsAtHand secrets held) e h))

  pub atom_at_hand : (a : AtomTerm) → rest ≡ atom_term a → (Builds secrets held whole → Builds secrets held rest) → Builds secrets held whole → IsAtHand secrets held rest
  atom_at_hand a e down h = subst (IsAtHand secrets held) (sym e) (subst (Builds secrets held) e (down h))

  pub enc_up : (a key : Term) (k : KeyTerm) → key ≡ key_as_term k → rest ≡ enc_term a k → IsAtHand secrets held key → (Builds secrets held rest → Builds secrets held whole) → Builds secrets held a → Builds secrets held whole
  enc_up a key k is e hand up first = up (subst (Builds secrets held) (sym e) (inr (first, subst (IsAtHand secrets held) is hand)))

  parts_of : (a : Term) (k : KeyTerm) → (IsIn (enc_term a k) held → ⊥) → Builds secrets held (enc_term a k) → Builds secrets held a × IsAtHand secrets held (key_as_term k)
  parts_of a k other (inl h) = absurd (other h)
  parts_of a k other (inr h) = h

  pub enc_parts : (a key : Term) (k : KeyTerm) → key ≡ key_as_term k → rest ≡ enc_term a k → (IsIn rest held → ⊥) → (Builds secrets held whole → Builds secrets held rest) → Builds secrets held whole → Builds secrets held a × IsAtHand secrets held key
  enc_parts a key k is e other down h =
      let p = parts_of a k (λ i. other (subst (λ t. IsIn t held) (sym e) i)) (subst (Builds secrets held) e (down h)) in
      (p.0, subst (IsAtHand secrets held) (sym is) p.1)
