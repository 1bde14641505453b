-- The tests of equality are true exactly of equal values.
use Rattle.std.proofs.Common.{ℕ, Bool, true, List, Option, Some, None, ◌≡◌, ◌≤◌, refl, ap, subst}
use Rattle.std.specs.Prelude.{nat_eq}
use Rattle.std.specs.Bool.{Decides}
use Rattle.std.specs.Cmp.Lexicographic.{pointwise}
use Rattle.std.specs.Option.{option_eq}
use Rattle.std.proofs.lemmas.Bool.Decides.{Decides-eqb, Decides-like, same_from_decides}
use Rattle.std.proofs.lemmas.Slice.Eq.{slice_eq-Decides}
use Rattle.cp_model.specs.Term.{AtomTerm, Term}
use Rattle.cp_model.specs.Same.{same_bool, same_atom, same_term}
use Rattle.cp_model.proofs.SameTests.{bool_is, same_bool_itself, atom_is, is_atom, term_is, is_term}
use Rattle.cp_term.specs.Size.{term_size}

-- Whether a and b are equal is all that is left to tell of two wholes.
abbrev pub AreLeftToCompare : Term → Term → Term → Term → Type 0
AreLeftToCompare a b whole other = (term_size a ≤ term_size whole) × (a ≡ b → whole ≡ other) × (whole ≡ other → a ≡ b)

pub bytes_Decides : (x y : List ℕ) → Decides (pointwise nat_eq x y) (x ≡ y)
bytes_Decides x y = slice_eq-Decides Decides-eqb x y (pointwise nat_eq x y) refl

pub flag_Decides : (f g : Bool) → Decides (same_bool f g) (f ≡ g)
flag_Decides f g = (bool_is f g, λ e. subst (λ b. same_bool f b ≡ true) e (same_bool_itself f))

pub purpose_Decides : (p q : Option (List ℕ)) → Decides (option_eq (pointwise nat_eq) p q) (p ≡ q)
purpose_Decides None None = (λ _. refl, λ _. refl)
purpose_Decides None (Some y) = (λ p. cc, λ p. cc)
purpose_Decides (Some x) None = (λ p. cc, λ p. cc)
purpose_Decides (Some x) (Some y) = Decides-like _ (λ e. ap Some e) (λ e. cc) (bytes_Decides x y)

pub atom_Decides : (a b : AtomTerm) → Decides (same_atom a b) (a ≡ b)
atom_Decides a b = (atom_is a b, is_atom a b)

pub same_Decides : (a b : Term) → Decides (same_term a b) (a ≡ b)
same_Decides a b = (term_is a b, is_term a b)

-- A boolean that is true exactly where two terms are equal is that of the test.
pub test_is : (a b : Term) (r : Bool) → Decides r (a ≡ b) → same_term a b ≡ r
test_is a b r h = same_from_decides (same_term a b) r (same_Decides a b) h
