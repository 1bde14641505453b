-- When two lists are the same.
use Rattle.std.proofs.Common.{◌≡◌, ◌≢◌, ◌⊎◌, inl, inr, ℕ, suc, List, [], ◌∷◌, Some, length, refl, arith, map, ap₂, ◌++◌, ap, ◌∙◌}
use Rattle.std.proofs.lemmas.Bool.{cases_eq}
use Rattle.cp_lists.specs.Lists.{item_at}

pub same_items : {A : Type 0} (xs ys : List A) → length xs ≡ length ys → ((i : ℕ) (y : A) → item_at ys i ≡ Some y → item_at xs i ≡ Some y) → xs ≡ ys
same_items [] [] e same = refl
same_items [] (y ∷ ys) e same = absurd (omega (arith, e))
same_items (x ∷ xs) [] e same = absurd (omega (arith, e))
same_items (x ∷ xs) (y ∷ ys) e same =
    let first : Some x ≡ Some y = same 0 y refl in
    let f : x ≡ y = cc in
    let rest : xs ≡ ys = same_items xs ys (omega (arith, e)) (λ i z at. same (suc i) z at) in
    cc

-- Where what two items show tells them apart, what two lists show does.
pub same_shown : {A B : Type 0} (v : A → B) → ((x y : A) → v x ≡ v y → x ≡ y) → (xs ys : List A) → map v xs ≡ map v ys → xs ≡ ys
same_shown v apart [] [] e = refl
same_shown v apart [] (y ∷ ys) e = absurd (cc)
same_shown v apart (x ∷ xs) [] e = absurd (cc)
same_shown v apart (x ∷ xs) (y ∷ ys) e =
    let f : v x ≡ v y = cc in
    let g : map v xs ≡ map v ys = cc in
    ap₂ (λ z zs. z ∷ zs) (apart x y f) (same_shown v apart xs ys g)

-- Lists in two parts are the same part by part where the first parts are of one length.
pub same_parts : (us bs cs ds : List ℕ) → length us ≡ length bs → us ++ cs ≡ bs ++ ds → (us ≡ bs) × (cs ≡ ds)
same_parts [] [] cs ds n e = (refl, e)
same_parts [] (b ∷ bs) cs ds n e = absurd (omega (arith, n))
same_parts (a ∷ us) [] cs ds n e = absurd (omega (arith, n))
same_parts (a ∷ us) (b ∷ bs) cs ds n e =
    let first : a ≡ b = cc in
    let rest : us ++ cs ≡ bs ++ ds = cc in
    let r = same_parts us bs cs ds (omega (arith, n)) rest in
    let behind : us ≡ bs = r.0 in
    (ap (λ (x : ℕ). x ∷ us) first ∙ ap (λ (xs : List ℕ). b ∷ xs) behind, r.1)

pub head_same : {a b : ℕ} {s t : List ℕ} → a ∷ s ≡ b ∷ t → a ≡ b
head_same e = cc

pub tail_same : {a b : ℕ} {s t : List ℕ} → a ∷ s ≡ b ∷ t → s ≡ t
tail_same e = cc

-- Of two texts it can be told whether they are one.
pub text_or_other : (t u : List ℕ) → (t ≡ u) ⊎ (t ≡ u → ⊥)
text_or_other [] [] = inl refl
text_or_other [] (y ∷ u) = inr (λ e. cc)
text_or_other (x ∷ t) [] = inr (λ e. cc)
text_or_other (x ∷ t) (y ∷ u) = by (cases_eq x y) (text_or_other t u)
  where
    by : (x ≡ y) ⊎ (x ≢ y) → (t ≡ u) ⊎ (t ≡ u → ⊥) → (x ∷ t ≡ y ∷ u) ⊎ (x ∷ t ≡ y ∷ u → ⊥)
    by (inl e) (inl f) = inl (ap₂ ◌∷◌ e f)
    by (inl e) (inr other) = inr (λ f. other (tail_same f))
    by (inr other) rest = inr (λ f. other (head_same f))
