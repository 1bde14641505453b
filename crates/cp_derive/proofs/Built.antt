-- Where what is held is closed, a term can be built from it exactly where it can be derived.
use Rattle.std.proofs.Common.{List, inl, inr}
use Rattle.cp_lists.specs.Lists.{IsIn}
use Rattle.cp_model.specs.Term.{AtomTerm, key_term, KeyTerm, inverse_term, Term, tag_term, atom_term, pair_term, enc_term}
use Rattle.cp_derive.specs.From.{a_tag, an_atom, was_sent, paired, left_of, right_of, encrypted, decrypted}
use Rattle.cp_derive.specs.Given.{Given, IsDerivable}
use Rattle.cp_derive.specs.Buildable.{BuildsAtom, Builds, IsClosedUnderParts}

-- Each term held is derivable.
abbrev pub AreDerivable : Given → List Term → Type 0
AreDerivable g held = (t : Term) → IsIn t held → IsDerivable g t

pub atom_derivable : (g : Given) (held : List Term) → AreDerivable g held → (a : AtomTerm) → BuildsAtom g.secrets held a → IsDerivable g (atom_term a)
atom_derivable g held all a (inl h) = all (atom_term a) h
atom_derivable g held all a (inr h) = an_atom h

pub built_derivable : (g : Given) (held : List Term) → AreDerivable g held → (t : Term) → Builds g.secrets held t → IsDerivable g t
built_derivable g held all (tag_term bytes) h = a_tag
built_derivable g held all (atom_term a) h = atom_derivable g held all a h
built_derivable g held all (pair_term a b) h = paired (built_derivable g held all a h.0) (built_derivable g held all b h.1)
built_derivable g held all (enc_term a k) (inl h) = all (enc_term a k) h
built_derivable g held all (enc_term a k) (inr h) = encrypted (built_derivable g held all a h.0) (atom_derivable g held all (key_term k) h.1)

opened_or_built : (g : Given) (held : List Term) → IsClosedUnderParts g held → (a : Term) (k : KeyTerm) → Builds g.secrets held (enc_term a k) → BuildsAtom g.secrets held (key_term (inverse_term k)) → Builds g.secrets held a
opened_or_built g held closed a k (inl h) key = closed.opened a k h key
opened_or_built g held closed a k (inr h) key = h.0

pub derivable_built : (g : Given) (held : List Term) → IsClosedUnderParts g held → (t : Term) → IsDerivable g t → Builds g.secrets held t
derivable_built g held closed _ a_tag = tt
derivable_built g held closed _ (an_atom h) = inr h
derivable_built g held closed _ (was_sent h) = closed.sent _ h
derivable_built g held closed _ (paired x y) = (derivable_built g held closed _ x, derivable_built g held closed _ y)
derivable_built g held closed _ (left_of x) = (derivable_built g held closed _ x).0
derivable_built g held closed _ (right_of x) = (derivable_built g held closed _ x).1
derivable_built g held closed _ (encrypted x y) = inr (derivable_built g held closed _ x, derivable_built g held closed _ y)
derivable_built g held closed _ (decrypted x y) = opened_or_built g held closed _ _ (derivable_built g held closed _ x) (derivable_built g held closed _ y)
