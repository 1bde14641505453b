-- Variables that are found by their identifiers, after one more of them.
use Rattle.std.proofs.Common.{◌≡◌, ℕ, suc, List, [], ◌∷◌, ◌++◌, length, Bool, true, false, ◌||◌, if◌then◌else◌, is_some, refl, sym, ap, ◌∙◌, Vec}
use Rattle.std.specs.Prelude.{Some, None}
use Rattle.std.specs.Cmp.Lexicographic.{nat_list_eq_equiv}
use Rattle.std.specs.HashMap.{HashMap, get_by, UpdatesBy}
use Rattle.std.specs.Str.{bytes_eq}
use Rattle.cp_model.specs.declared.variable.Declaration.{Declaration}
use Rattle.cp_model.specs.Same.{same_text}
use Rattle.cp_model.specs.declared.variable.Variable.{Variable}
use Rattle.cp_language.specs.Words.{is_one_of}
use Rattle.cp_language.specs.Names.{identifiers_in}
use Rattle.cp_language.specs.Terms.{variable_from, variable_named}
use Rattle.cp_language.specs.Problems.{is_known}
use Rattle.cp_scope.proofs.NamesInUse.{same_text-is, otherwise, count, count-all, one_more, none_is, entry-pushed, entry-again}
use Rattle.cp_scope.specs.Tables.{AreVariablesOf}

pub same_text-swap : (xs ys : List ℕ) → same_text xs ys ≡ same_text ys xs
same_text-swap xs ys = same_text-is xs ys ∙ nat_list_eq_equiv.symm xs ys ∙ sym (same_text-is ys xs)

variable-append : (n : ℕ) (ds : List Declaration) (d : Declaration) (t : List ℕ)
    → variable_from n (ds ++ d ∷ []) t ≡ otherwise (variable_from n ds t) (if same_text d.identifier t then Some (record { sort = d.sort; number = count n ds }) else None)
variable-append n [] d t = refl
variable-append n (e ∷ es) d t = one_more (same_text e.identifier t) (record { sort = e.sort; number = n }) _ _ _ (variable-append (suc n) es d t)

pub known-identifier : (n : ℕ) (ds : List Declaration) (t : List ℕ) → is_known (variable_from n ds t) ≡ is_one_of t (identifiers_in ds)
known-identifier n [] t = refl
known-identifier n (d ∷ ds) t = by_test (same_text d.identifier t) (same_text t d.identifier) (same_text-swap d.identifier t) (known-identifier (suc n) ds t)
  where
    by_test : (b c : Bool) → b ≡ c → is_known (variable_from (suc n) ds t) ≡ is_one_of t (identifiers_in ds)
        → is_known (if b then Some (record { sort = d.sort; number = n }) else variable_from (suc n) ds t) ≡ (c || is_one_of t (identifiers_in ds))
    by_test true true e h = refl
    by_test true false e h = absurd (cc)
    by_test false true e h = absurd (cc)
    by_test false false e h = h

module _ {A S : Type 0} (ds : List Declaration) (d : Declaration) (m n : HashMap (Vec ℕ A) Variable S) (k : Vec ℕ A) (v : Variable) where
  pub variables-pushed : v ≡ record { sort = d.sort; number = length ds } → AreVariablesOf ds m → is_some (get_by (λ y. bytes_eq d.identifier y.items) m) ≡ false → k.items ≡ d.identifier
      → UpdatesBy (λ x y. bytes_eq x.items y.items) (λ y. bytes_eq k.items y.items) m n (Some v) → AreVariablesOf (ds ++ d ∷ []) n
  variables-pushed e h none ek u t =
      entry-pushed d.identifier m n k v (variable_named ds) (same_text d.identifier) (record { sort = d.sort; number = count 0 ds }) (same_text-is d.identifier)
      (e ∙ ap (λ (c : ℕ). record { sort = d.sort; number = c }) (count-all ds))
      h (none_is _ (ap is_some (sym (h d.identifier)) ∙ none)) ek u t
      ∙ sym (variable-append 0 ds d t)

  pub variables-again : AreVariablesOf ds m → is_some (get_by (λ y. bytes_eq d.identifier y.items) m) ≡ true → AreVariablesOf (ds ++ d ∷ []) m
  variables-again h some t =
      h t ∙ entry-again d.identifier (variable_named ds) (same_text d.identifier) (record { sort = d.sort; number = count 0 ds }) (same_text-is d.identifier)
      (ap is_some (sym (h d.identifier)) ∙ some) t
      ∙ sym (variable-append 0 ds d t)
