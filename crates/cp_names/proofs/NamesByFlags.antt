-- The names of flagged variables are those of the variables that occur.
use Rattle.std.proofs.Common.{◌≡◌, ℕ, zero, suc, ◌+◌, ◌<◌, ◌≤◌, List, [], ◌∷◌, ◌++◌, length, get_or, Bool, true, false, refl, ap, ◌∙◌, arith, add-one, if◌then◌else◌, drop}
use Rattle.cp_model.specs.declared.variable.Variable.{Variable}
use Rattle.cp_model.specs.declared.variable.Declaration.{Declaration}
use Rattle.cp_language.specs.Names.{free_name, behind, has_number, later_names, label_names}
use Rattle.cp_names.specs.Flags.{AreFlagsOf, later_names_by, label_names_by}

-- the same choice by equal tests
pub branch : {A : Type 0} (b c : Bool) (p q r s : A) → b ≡ c → p ≡ r → q ≡ s → (if b then p else q) ≡ (if c then r else s)
branch b true p q r s e f g = ap (λ d. if d then p else q) e ∙ f
branch b false p q r s e f g = ap (λ d. if d then p else q) e ∙ g

module _ (occurring : List Variable) (count : ℕ) (flags : List Bool) (m : AreFlagsOf occurring count flags) where
  later-names : (taken : List (List ℕ)) (n : ℕ) (ds : List Declaration) → (0 < length ds → n + length ds ≤ count) → later_names_by taken flags n ds ≡ later_names taken occurring n ds
  later-names taken n [] h = refl
  later-names taken n (d ∷ ds) h =
      let within : n + suc (length ds) ≤ count = h (omega arith) in
      let x = free_name taken d.identifier in
      branch (get_or flags n false) (has_number occurring n) (x ∷ later_names_by (taken ++ x ∷ []) flags (n + 1) ds) ([] ∷ later_names_by taken flags (n + 1) ds)
      (x ∷ later_names (taken ++ x ∷ []) occurring (suc n) ds) ([] ∷ later_names taken occurring (suc n) ds)
      (m.each n (omega arith))
      (ap (λ k. x ∷ later_names_by (taken ++ x ∷ []) flags k ds) (add-one n) ∙ ap (λ xs. x ∷ xs) (later-names (taken ++ x ∷ []) (suc n) ds (λ _. omega arith)))
      (ap (λ k. [] ∷ later_names_by taken flags k ds) (add-one n) ∙ ap (λ xs. [] ∷ xs) (later-names taken (suc n) ds (λ _. omega arith)))

  behind-within : (n : ℕ) (ds : List Declaration) → 0 < length (behind n ds) → n + length (behind n ds) ≤ length ds
  behind-within zero ds h = omega arith
  behind-within (suc n) [] h = absurd (omega arith)
  behind-within (suc n) (d ∷ ds) h = let k = behind-within n ds h in omega arith

  names-by : (names : List (List ℕ)) (ds : List Declaration) → length ds ≡ count → label_names_by names flags ds ≡ label_names names occurring ds
  names-by names ds e = ap (λ xs. names ++ xs) (later-names names (length names) (behind (length names) ds) (λ h. let k = behind-within (length names) ds h in omega arith))

-- the names of a label are those by its flags
pub label_named : (of_problem names : List (List ℕ)) (xs : List Variable) (count : ℕ) (flags : List Bool) (ds : List Declaration)
    → names ≡ label_names_by of_problem flags ds → AreFlagsOf xs count flags → length ds ≡ count → names ≡ label_names of_problem xs ds
label_named of_problem names xs count flags ds e m n = e ∙ names-by xs count flags m of_problem ds n

-- what is behind so many is the list without them
pub behind_is : {A : Type 0} (n : ℕ) (xs : List A) → behind n xs ≡ drop n xs
behind_is zero xs = refl
behind_is (suc n) [] = refl
behind_is (suc n) (x ∷ xs) = behind_is n xs
