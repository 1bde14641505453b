-- The lists of variables of prefixes have those that are declared and occur, and no others.
use Rattle.std.proofs.Common.{◌≡◌, ℕ, zero, suc, ◌+◌, List, [], ◌∷◌, refl, subst, arith, ◌↔◌, Bool, true, false, ◌&&◌, not}
use Rattle.std.specs.Prelude.{Some}
use Rattle.cp_lists.specs.Lists.{item_at, IsIn, here, there}
use Rattle.cp_lists.proofs.Members.{into_filter, from_filter}
use Rattle.cp_model.specs.Term.{Variable}
use Rattle.cp_model.specs.Strand.{Declaration, Role, variables_of_prefix}
use Rattle.cp_model.specs.Problem.{declared_sort, IsDeclared}
use Rattle.cp_model.specs.Same.{has_variable}
use Rattle.cp_model.proofs.SameTests.{variable_in, in_has_variable}
use Rattle.cp_model.specs.PrefixVariables.{declared_variables, prefix_variables, is_added, added_variables}

-- ---- declarations

of-declared : (n : ℕ) (ds : List Declaration) (x : Variable) → IsIn x (declared_variables n ds) → (i : ℕ) × (x.number ≡ n + i) × (declared_sort (item_at ds i) ≡ Some x.sort)
of-declared n [] x p = elim p [ ]
of-declared n (d ∷ ds) x here = (0, omega arith, refl)
of-declared n (d ∷ ds) x (there p) = let r = of-declared (suc n) ds x p in let e = r.1 in (suc r.0, omega (arith, e), r.2)

into-declared : (n i : ℕ) (ds : List Declaration) (x : Variable) → x.number ≡ n + i → declared_sort (item_at ds i) ≡ Some x.sort → IsIn x (declared_variables n ds)
into-declared n i [] x e f = absurd (cc)
into-declared n zero (d ∷ ds) x e f =
    let s : d.sort ≡ x.sort = cc in
    let number : n ≡ x.number = omega (arith, e) in
    let same : record { sort = d.sort; number = n } ≡ x = λ k. record { sort = s k; number = number k } in
    subst (λ z. IsIn z (record { sort = d.sort; number = n } ∷ declared_variables (suc n) ds)) same here
into-declared n (suc i) (d ∷ ds) x e f = there (into-declared (suc n) i ds x (omega (arith, e)) f)

module _ (role : Role) (x : Variable) where
  declared-of : IsIn x (declared_variables 0 role.variables) → IsDeclared role.variables x
  declared-of p =
      let r = of-declared 0 role.variables x p in
      let e : r.0 ≡ x.number = let f = r.1 in omega (arith, f) in
      subst (λ i. declared_sort (item_at role.variables i) ≡ Some x.sort) e r.2

  declared-into : IsDeclared role.variables x → IsIn x (declared_variables 0 role.variables)
  declared-into d = into-declared 0 x.number role.variables x (omega arith) d

  pub in-prefix : (height : ℕ) → IsIn x (prefix_variables role height) ↔ (IsDeclared role.variables x × IsIn x (variables_of_prefix role height))
  in-prefix height =
      let test = has_variable (variables_of_prefix role height) in (
        (λ p. let r = from_filter test (declared_variables 0 role.variables) p in (declared-of r.0, variable_in (variables_of_prefix role height) x r.1)),
        (λ q. into_filter test (declared_variables 0 role.variables) (declared-into q.0) (in_has_variable (variables_of_prefix role height) x q.1)),
      )

  both-ways : (a b : Bool) → (a && not b) ≡ true → (a ≡ true) × (b ≡ true → ⊥)
  both-ways true true h = absurd (cc)
  both-ways true false h = (refl, λ e. absurd (cc))
  both-ways false b h = absurd (cc)

  both-back : (a b : Bool) → a ≡ true → (b ≡ true → ⊥) → (a && not b) ≡ true
  both-back true true e other = absurd (other refl)
  both-back true false e other = refl
  both-back false b e other = absurd (cc)

  pub in-added : (before height : ℕ) → IsIn x (added_variables role before height) ↔ (IsDeclared role.variables x × IsIn x (variables_of_prefix role height) × (IsIn x (variables_of_prefix role before) → ⊥))
  in-added before height =
      let old = variables_of_prefix role before in
      let now = variables_of_prefix role height in (
        (λ p.
            let r = from_filter (is_added old now) (declared_variables 0 role.variables) p in
            let b = both-ways (has_variable now x) (has_variable old x) r.1 in
            (declared-of r.0, variable_in now x b.0, λ i. b.1 (in_has_variable old x i))),
        (λ q. into_filter (is_added old now) (declared_variables 0 role.variables) (declared-into q.0)
            (both-back (has_variable now x) (has_variable old x) (in_has_variable now x q.1) (λ e. q.2 (variable_in old x e)))),
      )
