-- The labels with a number are found in a table.
use Rattle.std.proofs.Common.{◌≡◌, ◌∙◌, ℕ, zero, suc, ◌+◌, ◌<◌, ◌≤◌, List, [], ◌∷◌, ◌++◌, length, drop, Bool, true, false, refl, sym, ap, subst, arith, ⊎_elim, if◌then◌else◌}
use Rattle.std.specs.Prelude.{nat_eq, cond, Option, Some, None}
use Rattle.std.proofs.lemmas.Bool.Decides.{nat_tests}
use Rattle.cp_lists.specs.Lists.{item_at, IsIn, here, there}
use Rattle.cp_lists.proofs.Members.{head_or_behind}
use Rattle.cp_search.specs.declared.made.Made.{Made}
use Rattle.cp_search.specs.LabelsByNumber.{with_key, shown}

-- ---- one more label

-- What a table has for each number after one more label was put behind those that it had for this one.
module _ {V : Type 0} (show : V → List ℕ) (s n : ℕ) (old between new : ℕ → Option V) (taken : Option V) (v : V) (was : taken ≡ old s)
    (removed : (q : ℕ) → between q ≡ cond (nat_eq s q) None (old q)) (put : (q : ℕ) → new q ≡ cond (nat_eq s q) (Some v) (between q)) (grown : show v ≡ shown taken show ++ n ∷ []) where
  pub one_listed : (q : ℕ) → shown (new q) show ≡ (if nat_eq s q then shown (old q) show ++ n ∷ [] else shown (old q) show)
  one_listed q = by (nat_eq s q) refl
    where
      by : (b : Bool) → nat_eq s q ≡ b → shown (new q) show ≡ (if b then shown (old q) show ++ n ∷ [] else shown (old q) show)
      by true e =
          let same : s ≡ q = grind (arith, nat_tests) in
          let now : new q ≡ Some v = put q ∙ ap (λ b. cond b (Some v) (between q)) e in
          ap (λ o. shown o show) now ∙ grown ∙ ap (λ o. shown o show ++ n ∷ []) (was ∙ ap old same)
      by false e =
          let now : new q ≡ old q = put q ∙ ap (λ b. cond b (Some v) (between q)) e ∙ removed q ∙ ap (λ b. cond b None (old q)) e in
          ap (λ o. shown o show) now

pub with_one_more : (q i : ℕ) (ms : List Made) (m : Made) (n : ℕ) → n ≡ i + length ms
    → (if nat_eq m.signature.bucket_key q then with_key q i ms ++ n ∷ [] else with_key q i ms) ≡ with_key q i (ms ++ m ∷ [])
with_one_more q i [] m n e = by (nat_eq m.signature.bucket_key q)
  where
    by : (b : Bool) → (if b then n ∷ [] else []) ≡ (if b then i ∷ [] else [])
    by true = let same : n ≡ i = omega (arith, e) in ap (λ k. k ∷ []) same
    by false = refl
with_one_more q i (l ∷ ms) m n e = by (nat_eq l.signature.bucket_key q) (nat_eq m.signature.bucket_key q) (with_one_more q (suc i) ms m n (omega (arith, e)))
  where
    by : (b c : Bool) → (if c then with_key q (suc i) ms ++ n ∷ [] else with_key q (suc i) ms) ≡ with_key q (suc i) (ms ++ m ∷ [])
        → (if c then (if b then i ∷ with_key q (suc i) ms else with_key q (suc i) ms) ++ n ∷ [] else (if b then i ∷ with_key q (suc i) ms else with_key q (suc i) ms))
        ≡ (if b then i ∷ with_key q (suc i) (ms ++ m ∷ []) else with_key q (suc i) (ms ++ m ∷ []))
    by true true h = ap (λ ns. i ∷ ns) h
    by true false h = ap (λ ns. i ∷ ns) h
    by false true h = h
    by false false h = h

-- ---- what is listed

-- A label that is listed is there, and has the number.
pub record IsListed (q i : ℕ) (ms : List Made) (n : ℕ) : Type 0 where
  pub place : ℕ
  pub stands : n ≡ i + place
  pub label : Made
  pub at : item_at ms place ≡ Some label
  pub number : label.signature.bucket_key ≡ q

listed_later : (q i : ℕ) (l : Made) (ms : List Made) (n : ℕ) → IsListed q (suc i) ms n → IsListed q i (l ∷ ms) n
listed_later q i l ms n h = let p : ℕ = h.place in let e : n ≡ suc i + p = h.stands in record { place = suc p; stands = omega (arith, e); label = h.label; at = h.at; number = h.number }

is_listed : (q i : ℕ) (ms : List Made) (n : ℕ) → IsIn n (with_key q i ms) → IsListed q i ms n
is_listed q i [] n m = elim m [ ]
is_listed q i (l ∷ ms) n m = by (nat_eq l.signature.bucket_key q) refl (λ h. listed_later q i l ms n (is_listed q (suc i) ms n h)) m
  where
    by : (b : Bool) → nat_eq l.signature.bucket_key q ≡ b → (IsIn n (with_key q (suc i) ms) → IsListed q i (l ∷ ms) n) → IsIn n (if b then i ∷ with_key q (suc i) ms else with_key q (suc i) ms) → IsListed q i (l ∷ ms) n
    by true e later h = ⊎_elim first later (head_or_behind h)
      where
        first : n ≡ i → IsListed q i (l ∷ ms) n
        first same = let number : l.signature.bucket_key ≡ q = grind (arith, nat_tests) in record { place = 0; stands = omega (arith, same); label = l; at = refl; number = number }
    by false e later h = later h

-- Each label with the number is listed.
listed : (q i : ℕ) (ms : List Made) (j : ℕ) (m : Made) → item_at ms j ≡ Some m → m.signature.bucket_key ≡ q → IsIn (i + j) (with_key q i ms)
listed q i [] j m at e = absurd (cc)
listed q i (l ∷ ms) zero m at e =
    let same : l ≡ m = cc in
    let number : l.signature.bucket_key ≡ q = ap (λ (x : Made). x.signature.bucket_key) same ∙ e in
    let test : nat_eq l.signature.bucket_key q ≡ true = grind (arith, nat_tests) in
    let first : i ≡ i + 0 = omega arith in
    subst (λ (b : Bool). IsIn (i + 0) (if b then i ∷ with_key q (suc i) ms else with_key q (suc i) ms)) (sym test) (subst (λ (k : ℕ). IsIn k (i ∷ with_key q (suc i) ms)) first here)
listed q i (l ∷ ms) (suc j) m at e =
    let next : suc i + j ≡ i + suc j = omega arith in
    behind (nat_eq l.signature.bucket_key q) (subst (λ (k : ℕ). IsIn k (with_key q (suc i) ms)) next (listed q (suc i) ms j m at e))
  where
    behind : (b : Bool) → IsIn (i + suc j) (with_key q (suc i) ms) → IsIn (i + suc j) (if b then i ∷ with_key q (suc i) ms else with_key q (suc i) ms)
    behind true h = there h
    behind false h = h

pub there_listed : (q : ℕ) (ms : List Made) (j : ℕ) (m : Made) → item_at ms j ≡ Some m → m.signature.bucket_key ≡ q → IsIn j (with_key q 0 ms)
there_listed q ms j m at e = let same : 0 + j ≡ j = omega arith in subst (λ (k : ℕ). IsIn k (with_key q 0 ms)) same (listed q 0 ms j m at e)

pub listed_there : (q : ℕ) (ms : List Made) (n : ℕ) → IsIn n (with_key q 0 ms) → (m : Made) × (item_at ms n ≡ Some m)
listed_there q ms n m =
    let h = is_listed q 0 ms n m in
    let p : ℕ = h.place in
    let e : n ≡ 0 + p = h.stands in
    let same : p ≡ n = omega (arith, e) in
    (h.label, subst (λ (k : ℕ). item_at ms k ≡ Some h.label) same h.at)

-- ---- in ascending order

-- Those behind one are greater.
abbrev pub AreAscending : List ℕ → Type 0
AreAscending [] = Unit {0}
AreAscending (n ∷ ns) = ((m : ℕ) → IsIn m ns → n < m) × AreAscending ns

pub are_ascending : (q i : ℕ) (ms : List Made) → AreAscending (with_key q i ms)
are_ascending q i [] = tt
are_ascending q i (l ∷ ms) = by (nat_eq l.signature.bucket_key q) (are_ascending q (suc i) ms)
  where
    by : (b : Bool) → AreAscending (with_key q (suc i) ms) → AreAscending (if b then i ∷ with_key q (suc i) ms else with_key q (suc i) ms)
    by true h = (λ m j. let p = is_listed q (suc i) ms m j in let k : ℕ = p.place in let e : m ≡ suc i + k = p.stands in omega (arith, e), h)
    by false h = h

pub ascending_from : (ns : List ℕ) (k n : ℕ) (rest : List ℕ) → AreAscending ns → drop k ns ≡ n ∷ rest → (m : ℕ) → IsIn m (n ∷ rest) → n ≤ m
ascending_from ns zero n rest h e m i = first (subst AreAscending e h) m i
  where
    first : AreAscending (n ∷ rest) → (m : ℕ) → IsIn m (n ∷ rest) → n ≤ m
    first g m j = ⊎_elim (λ (same : m ≡ n). omega (arith, same)) (λ b. let l : n < m = g.0 m b in omega (arith, l)) (head_or_behind j)
ascending_from [] (suc k) n rest h e m i = absurd (cc)
ascending_from (x ∷ ns) (suc k) n rest h e m i = ascending_from ns k n rest h.1 e m i
