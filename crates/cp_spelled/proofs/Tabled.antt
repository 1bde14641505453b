-- Tables after one more entry.
use Rattle.std.proofs.Common.{◌≡◌, ℕ, suc, ◌+◌, List, [], ◌∷◌, ◌++◌, length, Bool, true, false, ◌||◌, ◌==◌, if◌then◌else◌, is_some, eqb-true, refl, sym, ap, ◌∙◌, arith}
use Rattle.std.specs.Prelude.{Option, Some, None, nat_eq, cond}
use Rattle.std.specs.HashMap.{HashMap, get}
use Rattle.std.proofs.lemmas.Bool.{cond-false, cond-true}
use Rattle.cp_model.specs.declared.variable.Variable.{Variable}
use Rattle.cp_report.specs.Spelled.{place_of_local, has_local}
use Rattle.cp_scope.proofs.NamesInUse.{otherwise, otherwise-none, count, count-all, one_more, none_is}
use Rattle.cp_spelled.specs.Tables.{local_from, AreLocalsOf}

-- ---- behind others

local-append : (k : ℕ) (ls : List Variable) (l : Variable) (n : ℕ)
    → local_from k (ls ++ l ∷ []) n ≡ otherwise (local_from k ls n) (if l.number == n then Some (record { sort = l.sort; number = count k ls }) else None)
local-append k [] l n = refl
local-append k (m ∷ ms) l n = one_more (m.number == n) (record { sort = m.sort; number = k }) _ _ _ (local-append (suc k) ms l n)

-- ---- locals that are found by their numbers

pub locals-again : (ls : List Variable) (n : ℕ) → is_some (local_from 0 ls n) ≡ has_local ls n
locals-again ls n = at_place 0 ls
  where
    at_place : (k : ℕ) (ms : List Variable) → is_some (local_from k ms n) ≡ has_local ms n
    at_place k [] = refl
    at_place k (m ∷ ms) = by_test (m.number == n) (at_place (suc k) ms)
      where
        by_test : (b : Bool) → is_some (local_from (suc k) ms n) ≡ has_local ms n → is_some (if b then Some (record { sort = m.sort; number = k }) else local_from (suc k) ms n) ≡ (b || has_local ms n)
        by_test true e = refl
        by_test false e = e

abbrev place_found : Option Variable → ℕ → ℕ
place_found None n = n
place_found (Some x) n = x.number

place_by : (k : ℕ) (ls : List Variable) (n : ℕ) → place_found (local_from k ls n) (count k ls) ≡ k + place_of_local ls n
place_by k [] n = omega arith
place_by k (l ∷ ls) n = by_test (l.number == n) (place_by (suc k) ls n)
  where
    by_test : (b : Bool) → place_found (local_from (suc k) ls n) (count (suc k) ls) ≡ suc k + place_of_local ls n
        → place_found (if b then Some (record { sort = l.sort; number = k }) else local_from (suc k) ls n) (count (suc k) ls) ≡ k + (if b then 0 else suc (place_of_local ls n))
    by_test true e = omega arith
    by_test false e = omega (arith, e)

pub place-found : (ls : List Variable) (n : ℕ) (x : Variable) → Some x ≡ local_from 0 ls n → x.number ≡ place_of_local ls n
place-found ls n x e = let all = ap (λ o. place_found o (count 0 ls)) e ∙ place_by 0 ls n in omega (arith, all)

pub place-missing : (ls : List Variable) (n : ℕ) → None ≡ local_from 0 ls n → length ls ≡ place_of_local ls n
place-missing ls n e = let all = ap (λ o. place_found o (count 0 ls)) e ∙ place_by 0 ls n in let most = count-all ls in omega (arith, all, most)

module _ (ls : List Variable) (l : Variable) {S : Type 0} (m n : HashMap ℕ Variable S) (v : Variable) where
  pub locals-pushed : v ≡ record { sort = l.sort; number = length ls } → AreLocalsOf ls m → local_from 0 ls l.number ≡ None
      → ((q : ℕ) → get nat_eq n q ≡ cond (nat_eq l.number q) (Some v) (get nat_eq m q)) → AreLocalsOf (ls ++ l ∷ []) n
  locals-pushed e h none u q = u q ∙ by_number (nat_eq l.number q) refl ∙ sym (local-append 0 ls l q)
    where
      shown : Some v ≡ Some (record { sort = l.sort; number = count 0 ls })
      shown = ap Some e ∙ ap (λ (c : ℕ). Some (record { sort = l.sort; number = c })) (count-all ls)

      by_number : (b : Bool) → nat_eq l.number q ≡ b
          → cond b (Some v) (get nat_eq m q) ≡ otherwise (local_from 0 ls q) (if b then Some (record { sort = l.sort; number = count 0 ls }) else None)
      by_number true f =
          let missing : local_from 0 ls q ≡ None = ap (local_from 0 ls) (sym (eqb-true l.number q f)) ∙ none in
          shown ∙ sym (ap (λ o. otherwise o (Some (record { sort = l.sort; number = count 0 ls }))) missing)
      by_number false f = h q ∙ sym (otherwise-none (local_from 0 ls q))

-- the table is asked for a number
module _ {S : Type 0} (ls : List Variable) (l : Variable) (m : HashMap ℕ Variable S) where
  pub locals-asked : AreLocalsOf ls m → is_some (get nat_eq m l.number) ≡ false → local_from 0 ls l.number ≡ None
  locals-asked h e = none_is _ (ap is_some (sym (h l.number)) ∙ e)

  known : AreLocalsOf ls m → is_some (get nat_eq m l.number) ≡ true → has_local ls l.number ≡ true
  known h e = sym (locals-again ls l.number) ∙ ap is_some (sym (h l.number)) ∙ e

  pub locals-known : (now : List Variable) → AreLocalsOf ls m → ls ≡ now → is_some (get nat_eq m l.number) ≡ true → now ≡ (if has_local now l.number then now else now ++ l ∷ [])
  locals-known now h e g = sym (cond-true (has_local now l.number) now (now ++ l ∷ []) (ap (λ ks. has_local ks l.number) (sym e) ∙ known h g))

  pub locals-new : (now : List Variable) → AreLocalsOf ls m → ls ≡ now → is_some (get nat_eq m l.number) ≡ false → now ++ l ∷ [] ≡ (if has_local now l.number then now else now ++ l ∷ [])
  locals-new now h e g =
      let missing : has_local ls l.number ≡ false = sym (locals-again ls l.number) ∙ ap is_some (locals-asked h g) in
      sym (cond-false (has_local now l.number) now (now ++ l ∷ []) (ap (λ ks. has_local ks l.number) (sym e) ∙ missing))
