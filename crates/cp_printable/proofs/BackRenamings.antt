-- A renaming that is one to one on some variables has an inverse there, which is one to one on all variables.
use Rattle.std.proofs.Common.{◌≡◌, ◌⊎◌, inl, inr, ℕ, suc, ◌+◌, ◌<◌, List, [], ◌∷◌, Bool, true, false, refl, sym, ap, ◌∙◌, arith, if◌then◌else◌}
use Rattle.std.specs.Prelude.{map}
use Rattle.cp_lists.specs.Lists.{IsIn, here, there}
use Rattle.cp_lists.proofs.Members.{into_map, from_map}
use Rattle.cp_model.specs.Term.{variable_term, AtomTerm, Term, variables_of_atom, variables_of, Substitution, apply_to, apply_to_atom, composed}
use Rattle.cp_model.specs.declared.variable.Variable.{Variable}
use Rattle.cp_model.specs.Identity.{unchanged}
use Rattle.cp_model.specs.Same.{has_variable}
use Rattle.cp_model.proofs.SameTests.{variable_in, in_has_variable}
use Rattle.cp_model.proofs.LawTerms.{atom_composed, term_composed, atom_unchanged, term_unchanged}
use Rattle.cp_model.proofs.LawAgreement.{agree_atom, agree_term}
use Rattle.cp_report.specs.UpToNames.{variable_numbered, renamed, renaming, IsOneToOne}
use Rattle.cp_report.proofs.Inverses.{renamed_variable, atom_onto, inverse, inverse_back}

-- A number above those of the variables.
abbrev pub above : List Variable → ℕ
above [] = 0
above (x ∷ xs) = suc (x.number + above xs)

-- It is above each of them.
below_above : (xs : List Variable) (x : Variable) → IsIn x xs → x.number < above xs
below_above [] x m = elim m [ ]
below_above (z ∷ xs) x here = omega arith
below_above (z ∷ xs) x (there m) = let l = below_above xs x m in omega (arith, l)

-- A variable to which one of these is renamed goes back to that; any other one goes to a number above them, each to its own.
abbrev pub returning : (Variable → ℕ) → List Variable → Variable → ℕ
returning number xs y = if has_variable (map (renamed number) xs) y then inverse number xs y else above xs + y.number

module _ (number : Variable → ℕ) (xs : List Variable) (one : IsOneToOne number xs) where
  -- the inverse
  abbrev pub back : Variable → ℕ
  back = returning number xs

  -- the renaming
  abbrev pub f : Substitution
  f = renaming number

  -- and back
  abbrev pub g : Substitution
  g = renaming back

  -- What is renamed goes back to where it came from.
  returned_number : (x : Variable) → IsIn x xs → back (renamed number x) ≡ x.number
  returned_number x m =
      ap (λ (b : Bool). if b then inverse number xs (renamed number x) else above xs + number x) (in_has_variable (map (renamed number) xs) (renamed number x) (into_map (renamed number) m))
      ∙ inverse_back number xs one x m

  -- The same of variables.
  pub returned : (x : Variable) → IsIn x xs → renamed back (renamed number x) ≡ x
  returned x m = ap (λ (n : ℕ). variable_numbered x.sort n) (returned_number x m)

  -- A variable either comes from one of these, or goes to a number above them.
  from_or_above : (y : Variable) → ((x : Variable) × IsIn x xs × (renamed number x ≡ y)) ⊎ (back y ≡ above xs + y.number)
  from_or_above y = by (has_variable (map (renamed number) xs) y) refl
    where
      by : (b : Bool) → has_variable (map (renamed number) xs) y ≡ b → ((x : Variable) × IsIn x xs × (renamed number x ≡ y)) ⊎ (back y ≡ above xs + y.number)
      by true e = inl (from_map (renamed number) xs (variable_in (map (renamed number) xs) y e))
      by false e = inr (ap (λ (b : Bool). if b then inverse number xs y else above xs + y.number) e)

  -- A variable that comes from one of these goes back to it.
  comes_back : (y : Variable) (p : (x : Variable) × IsIn x xs × (renamed number x ≡ y)) → renamed back y ≡ p.0
  comes_back y p = ap (renamed back) (sym p.2) ∙ returned p.0 p.1

  -- No two variables go back to one.
  pub one_back : (y z : Variable) → renamed back y ≡ renamed back z → y ≡ z
  one_back y z e = by (from_or_above y) (from_or_above z)
    where
      numbers : back y ≡ back z
      numbers = ap (λ (v : Variable). v.number) e

      below : (w : Variable) (p : (x : Variable) × IsIn x xs × (renamed number x ≡ w)) → back w < above xs
      below w p =
          let same : back w ≡ p.0.number = ap (λ (v : Variable). v.number) (comes_back w p) in
          let less = below_above xs p.0 p.1 in
          omega (arith, same, less)

      by : ((x : Variable) × IsIn x xs × (renamed number x ≡ y)) ⊎ (back y ≡ above xs + y.number) → ((x : Variable) × IsIn x xs × (renamed number x ≡ z)) ⊎ (back z ≡ above xs + z.number) → y ≡ z
      by (inl p) (inl q) = sym p.2 ∙ ap (renamed number) (sym (comes_back y p) ∙ e ∙ comes_back z q) ∙ q.2
      by (inl p) (inr b) = let less = below y p in absurd (omega (arith, less, b, numbers))
      by (inr a) (inl q) = let less = below z q in absurd (omega (arith, less, a, numbers))
      by (inr a) (inr b) =
          let s : y.sort ≡ z.sort = ap (λ (v : Variable). v.sort) e in
          let n : y.number ≡ z.number = omega (arith, a, b, numbers) in
          λ i. variable_numbered (s i) (n i)

  -- What goes back to one of these is where that is renamed to.
  pub forth : (y : Variable) → IsIn (renamed back y) xs → renamed number (renamed back y) ≡ y
  forth y m = one_back (renamed number (renamed back y)) y (returned (renamed back y) m)

  -- ---- atoms and terms

  -- A variable of these, renamed and back, is itself.
  variable_returned : (x : Variable) → IsIn x xs → apply_to (composed f g) (variable_term x) ≡ apply_to unchanged (variable_term x)
  variable_returned x m =
      term_composed f g (variable_term x) ∙ ap (apply_to g) (renamed_variable number x) ∙ renamed_variable back (renamed number x) ∙ ap variable_term (returned x m) ∙ sym (term_unchanged (variable_term x))

  -- An atom over these variables, renamed and back, is itself.
  pub atom_returned : (v : AtomTerm) → ((x : Variable) → IsIn x (variables_of_atom v) → IsIn x xs) → apply_to_atom g (apply_to_atom f v) ≡ v
  atom_returned v within = sym (atom_composed f g v) ∙ agree_atom (composed f g) unchanged v (λ x m. variable_returned x (within x m)) ∙ atom_unchanged v

  -- A term over these variables, renamed and back, is itself.
  pub term_returned : (t : Term) → ((x : Variable) → IsIn x (variables_of t) → IsIn x xs) → apply_to g (apply_to f t) ≡ t
  term_returned t within = sym (term_composed f g t) ∙ agree_term (composed f g) unchanged t (λ x m. variable_returned x (within x m)) ∙ term_unchanged t

  -- A variable that goes back to one of these, back and renamed, is itself.
  variable_forth : (y : Variable) → IsIn (renamed back y) xs → apply_to (composed g f) (variable_term y) ≡ apply_to unchanged (variable_term y)
  variable_forth y m =
      term_composed g f (variable_term y) ∙ ap (apply_to f) (renamed_variable back y) ∙ renamed_variable number (renamed back y) ∙ ap variable_term (forth y m) ∙ sym (term_unchanged (variable_term y))

  -- An atom that goes back to one over these variables, back and renamed, is itself.
  pub atom_forth : (v : AtomTerm) → ((x : Variable) → IsIn x (variables_of_atom (apply_to_atom g v)) → IsIn x xs) → apply_to_atom f (apply_to_atom g v) ≡ v
  atom_forth v within =
      sym (atom_composed g f v) ∙ agree_atom (composed g f) unchanged v (λ y m. variable_forth y (within (renamed back y) (atom_onto back v y m))) ∙ atom_unchanged v
