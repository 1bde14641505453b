-- Steps of the search for the first difference.
use Rattle.std.proofs.Common.{◌≡◌, ℕ, Bool, true, List, Option, refl, sym, ap, ◌∙◌}
use Rattle.cp_model.specs.Term.{pubk_term, KeyTerm, asymmetric_term, inverse_term, Term, atom_term}
use Rattle.cp_model.specs.declared.sort.Sort.TheVariants.{Akey as akey_sort}
use Rattle.cp_term.specs.Keys.{key_as_term}
use Rattle.cp_term.specs.Sorts.{is_of_sort}
use Rattle.cp_unify.specs.Differences.{akey_atom, binds, difference_of}
use Rattle.cp_unify.specs.declared.difference.Difference.{Difference}
use Rattle.cp_unify.proofs.MatchedTerms.{IsAsymmetric, asymmetric_of}

-- The inverse of an asymmetric key is one.
pub inverse_sorted : (t inverse : Term) → is_of_sort akey_sort t ≡ true → ((k : KeyTerm) → t ≡ key_as_term k → inverse ≡ key_as_term (inverse_term k)) →
    is_of_sort akey_sort inverse ≡ true
inverse_sorted t inverse sorted made =
    let h : IsAsymmetric t = asymmetric_of t _ refl sorted in
    ap (is_of_sort akey_sort) (made (asymmetric_term h.flag h.half) h.is_asymmetric)

-- The variable is bound to the inverse of the key.
abbrev pub IsInverseBound : Term → ℕ → Difference → Type 0
IsInverseBound key x d = (k : KeyTerm) → key ≡ key_as_term k → d ≡ binds akey_sort x (key_as_term (inverse_term k))

pub inverse_and_pubk : (x : ℕ) (b : Term) (f : Bool) (p : Option (List ℕ)) (a : ℕ) (d : Difference) → b ≡ key_as_term (asymmetric_term f (pubk_term p a)) →
    IsInverseBound b x d → d ≡ difference_of (atom_term (akey_atom true x)) b
inverse_and_pubk x b f p a d e h = h (asymmetric_term f (pubk_term p a)) e ∙ sym (ap (difference_of (atom_term (akey_atom true x))) e)

pub pubk_and_inverse : (a : Term) (f : Bool) (p : Option (List ℕ)) (x : ℕ) (b : Term) (y : ℕ) (d : Difference) → a ≡ key_as_term (asymmetric_term f (pubk_term p x)) →
    b ≡ atom_term (akey_atom true y) → IsInverseBound a y d → d ≡ difference_of a b
pubk_and_inverse a f p x b y d ea eb h =
    h (asymmetric_term f (pubk_term p x)) ea ∙ sym (ap (λ (t : Term). difference_of t b) ea ∙ ap (difference_of (key_as_term (asymmetric_term f (pubk_term p x)))) eb)
