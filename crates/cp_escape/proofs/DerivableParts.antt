-- A term in a derivable message is derivable where each encryption that encloses it can be opened.
use Rattle.std.proofs.Common.{◌≡◌, List, [], ◌∷◌, Some, refl, subst}
use Rattle.cp_lists.specs.Lists.{IsIn, here, there}
use Rattle.cp_model.specs.Term.{Term, tag_term, atom_term, pair_term, enc_term}
use Rattle.cp_model.specs.declared.step.Step.{Step}
use Rattle.cp_model.specs.declared.step.Step.TheVariants.{Left, Right, Plaintext}
use Rattle.cp_model.specs.Positions.{term_at}
use Rattle.cp_derive.specs.From.{left_of, right_of, decrypted}
use Rattle.cp_derive.specs.Given.{Given, IsDerivable}
use Rattle.cp_theory.specs.Above.{encryptions_above}
use Rattle.cp_escape.specs.ClosedEncryptions.{IsOpenTo, IsHidden}

module _ (g : Given) where
  abbrev AllOpen : Term → List Step → Type 0
  AllOpen t path = (e : Term) → IsIn e (encryptions_above t path) → IsOpenTo g e

  derived_inside : (t : Term) (path : List Step) (c : Term) → term_at t path ≡ Some c → IsDerivable g t → AllOpen t path → IsDerivable g c
  derived_inside t [] c at d opens = let same : t ≡ c = cc in subst (IsDerivable g) same d
  derived_inside (pair_term a b) (Left ∷ path) c at d opens = derived_inside a path c at (left_of d) opens
  derived_inside (pair_term a b) (Right ∷ path) c at d opens = derived_inside b path c at (right_of d) opens
  derived_inside (enc_term a k) (Plaintext ∷ path) c at d opens = derived_inside a path c at (decrypted d (opens (enc_term a k) here a k refl)) (λ e i. opens e (there i))
  derived_inside (pair_term a b) (Plaintext ∷ path) c at d opens = absurd (cc)
  derived_inside (enc_term a k) (Left ∷ path) c at d opens = absurd (cc)
  derived_inside (enc_term a k) (Right ∷ path) c at d opens = absurd (cc)
  derived_inside (tag_term bytes) (Left ∷ path) c at d opens = absurd (cc)
  derived_inside (tag_term bytes) (Right ∷ path) c at d opens = absurd (cc)
  derived_inside (tag_term bytes) (Plaintext ∷ path) c at d opens = absurd (cc)
  derived_inside (atom_term v) (Left ∷ path) c at d opens = absurd (cc)
  derived_inside (atom_term v) (Right ∷ path) c at d opens = absurd (cc)
  derived_inside (atom_term v) (Plaintext ∷ path) c at d opens = absurd (cc)

  -- So not all that enclose a hidden term can be.
  pub one_closed : (t : Term) (path : List Step) → IsHidden g t path → AllOpen t path → ⊥
  one_closed t path h opens = h.underivable (derived_inside t path h.part h.there h.derivable opens)
