-- What a table that hashes needs to know of terms.
use Rattle.std.specs.Prelude.{◌≡◌, ℕ, List, true}
use Rattle.std.specs.Bool.{Decides}
use Rattle.std.specs.Cmp.{IsEquivalence, decided}
use Rattle.std.specs.Hash.{usize, same_Alike}
use Rattle.cp_model.specs.Term.{Term}
use Rattle.cp_model.specs.Same.{same_term}
use Rattle.cp_model.proofs.SameTests.{term_is, is_term}
use Rattle.cp_term.specs.Numbers.{number_of_term}

-- What a term feeds a hash function: its number alone.
abbrev pub hashed_term : Term → List (List ℕ)
hashed_term t = usize (number_of_term t)

same_term_decides : (a b : Term) → Decides (same_term a b) (a ≡ b)
same_term_decides a b = (term_is a b, is_term a b)

pub same_terms_are_equivalent : IsEquivalence same_term
same_terms_are_equivalent = decided same_term same_term_decides

pub same_terms_are_hashed_alike : (a b : Term) → same_term a b ≡ true → hashed_term a ≡ hashed_term b
same_terms_are_hashed_alike = (same_Alike hashed_term same_term_decides).fed
