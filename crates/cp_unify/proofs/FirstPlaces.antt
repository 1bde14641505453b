-- Where bindings of a number begin.
use Rattle.std.proofs.Common.{◌≡◌, ◌≢◌, ◌⊎◌, inl, inr, ◌<◌, ◌≤◌, ◌+◌, ◌-◌, ◌==◌, ℕ, zero, suc, if◌then◌else◌, Bool, true, false, List, [], ◌∷◌, ◌++◌, length, get_or, set, take, drop, refl, sym, ap, ◌∙◌, subst, arith, length-drop}
use Rattle.std.proofs.lemmas.List.{take_all, drop_all, get_or-set_same, get_or-set_other}
use Rattle.std.proofs.lemmas.Bool.Decides.{eqb_tells}
use Rattle.cp_lists.proofs.Members.{drop_read}
use Rattle.cp_unify.specs.Bindings.{Binding}
use Rattle.cp_unify.specs.Places.{BeginAt, ArePlaces, ArePlacesIfAny, IsRestAfter}

-- A table with more zeros behind it tells the same.
pub zero_pushed : (xs : List ℕ) (n : ℕ) → get_or (xs ++ 0 ∷ []) n 0 ≡ get_or xs n 0
zero_pushed [] zero = refl
zero_pushed [] (suc n) = refl
zero_pushed (x ∷ xs) zero = refl
zero_pushed (x ∷ xs) (suc n) = zero_pushed xs n

pub told_as : (xs ys zs : List ℕ) → ((n : ℕ) → get_or xs n 0 ≡ get_or zs n 0) → ys ≡ xs ++ 0 ∷ [] → (n : ℕ) → get_or ys n 0 ≡ get_or zs n 0
told_as xs ys zs h e n = ap (λ (l : List ℕ). get_or l n 0) e ∙ zero_pushed xs n ∙ h n

put_at : (xs ys : List ℕ) (number count n : ℕ) → number < length xs →
    ((n == number) ≡ true) × (n ≡ number) ⊎ ((n == number) ≡ false) × (n ≢ number) → get_or xs n 0 ≡ get_or ys n 0 →
    get_or (set xs number count) n 0 ≡ (if n == number then count else get_or ys n 0)
put_at xs ys number count n below (inl p) h = rw p.0 (ap (λ (m : ℕ). get_or (set xs number count) m 0) p.1 ∙ get_or-set_same xs number count 0 below)
put_at xs ys number count n below (inr p) h = rw p.0 (get_or-set_other xs number n count 0 p.1 ∙ h)

pub count_put : (xs new ys : List ℕ) (number count : ℕ) → ((n : ℕ) → get_or xs n 0 ≡ get_or ys n 0) → number < length xs → new ≡ set xs number count →
    (n : ℕ) → get_or new n 0 ≡ (if n == number then count else get_or ys n 0)
count_put xs new ys number count h below e n =
    ap (λ (l : List ℕ). get_or l n 0) e ∙ put_at xs ys number count n below (eqb_tells n number) (h n)

pub no_places : ArePlaces [] []
no_places n = refl

begin_more : (old : List ℕ) (b : Binding) (bs : List Binding) (n : ℕ) → BeginAt n (get_or old n 0) bs →
    ((n == b.variable.number) ≡ true) × (n ≡ b.variable.number) ⊎ ((n == b.variable.number) ≡ false) × (n ≢ b.variable.number) →
    BeginAt n (if n == b.variable.number then suc (length bs) else get_or old n 0) (b ∷ bs)
begin_more old b bs n h (inl p) = told (sym p.0) (inl refl)
  where
    told : {t : Bool} → true ≡ t → BeginAt n (suc (length bs)) (b ∷ bs) → BeginAt n (if t then suc (length bs) else get_or old n 0) (b ∷ bs)
    told e k = subst (λ (t : Bool). BeginAt n (if t then suc (length bs) else get_or old n 0) (b ∷ bs)) e k
begin_more old b bs n h (inr p) = told (sym p.0) (inr (λ e. p.1 (sym e), h))
  where
    told : {t : Bool} → false ≡ t → BeginAt n (get_or old n 0) (b ∷ bs) → BeginAt n (if t then suc (length bs) else get_or old n 0) (b ∷ bs)
    told e k = subst (λ (t : Bool). BeginAt n (if t then suc (length bs) else get_or old n 0) (b ∷ bs)) e k

-- The table where one more binding stands in front.
pub places_more : (old new : List ℕ) (b : Binding) (bs all : List Binding) (number count : ℕ) → ArePlaces old bs →
    ((n : ℕ) → get_or new n 0 ≡ (if n == number then count else get_or old n 0)) → all ≡ b ∷ bs → number ≡ b.variable.number → count ≡ length all → ArePlaces new all
places_more old new b bs all number count h put e is counted n =
    let told : get_or new n 0 ≡ (if n == b.variable.number then suc (length bs) else get_or old n 0) =
    put n ∙ ap (λ (m : ℕ). if n == m then count else get_or old n 0) is
    ∙ ap (λ (m : ℕ). if n == b.variable.number then m else get_or old n 0) (counted ∙ ap length e) in
    subst (λ (cs : List Binding). BeginAt n (get_or new n 0) cs) (sym e)
    (subst (λ (m : ℕ). BeginAt n m (b ∷ bs)) (sym told) (begin_more old b bs n (h n) (eqb_tells n b.variable.number)))

-- One step from the end to the start.
pub places_before : (bs : List Binding) (old new : List ℕ) (start i : ℕ) (b : Binding) (number count : ℕ) → ArePlaces old (drop start bs) → start ≡ i + 1 →
    i < length bs → b ≡ get_or bs i b → number ≡ b.variable.number → count ≡ length bs - i →
    ((n : ℕ) → get_or new n 0 ≡ (if n == number then count else get_or old n 0)) → ArePlaces new (drop i bs)
places_before bs old new start i b number count h at below read is counted put =
    places_more old new b (drop (i + 1) bs) (drop i bs) number count (subst (λ (s : ℕ). ArePlaces old (drop s bs)) at h) put
    (drop_read bs i b below read) is (counted ∙ sym (length-drop i bs))

pub count_within : (n count : ℕ) (bs : List Binding) → BeginAt n count bs → count ≤ length bs
count_within n count [] h = omega arith
count_within n count (b ∷ bs) (inl e) = omega arith
count_within n count (b ∷ bs) (inr p) = omega (arith, count_within n count bs p.1)

pub behind_all : (n : ℕ) (bs : List Binding) → IsRestAfter n bs bs
behind_all n [] = refl
behind_all n (b ∷ bs) = inl refl

dropped : (n count : ℕ) (b : Binding) (bs : List Binding) → count ≤ length bs → drop (suc (length bs) - count) (b ∷ bs) ≡ drop (length bs - count) bs
dropped n count b bs h = ap (λ (k : ℕ). drop k (b ∷ bs)) (let e : suc (length bs) - count ≡ suc (length bs - count) = omega arith in e)

pub behind_at : (n count : ℕ) (bs : List Binding) → BeginAt n count bs → IsRestAfter n (drop (length bs - count) bs) bs
behind_at n count [] h = drop_all (0 - count) [] (omega arith)
behind_at n count (b ∷ bs) (inl e) = inl (ap (λ (k : ℕ). drop k (b ∷ bs)) (let z : suc (length bs) - count ≡ 0 = omega arith in z))
behind_at n count (b ∷ bs) (inr p) =
    inr (p.0, subst (λ (cs : List Binding). IsRestAfter n cs bs) (sym (dropped n count b bs (count_within n count bs p.1))) (behind_at n count bs p.1))

pub places_all : (bs : List Binding) (places : List ℕ) (start : ℕ) → ArePlaces places (drop start bs) → start ≤ 0 → ArePlaces places bs
places_all bs places start h end = subst (λ (s : ℕ). ArePlaces places (drop s bs)) (let z : start ≡ 0 = omega arith in z) h

-- The end of a list from a place on, as a slice.
pub behind_slice : (n count start : ℕ) (own items all : List Binding) (places : List ℕ) → items ≡ own → own ≡ all → ArePlaces places own →
    count ≡ get_or places n 0 → start ≡ length items - count → IsRestAfter n (take (length items - start) (drop start items)) all
behind_slice n count start own items all places e v h counted at =
    let rest : take (length items - start) (drop start items) ≡ drop start items = take_all (length items - start) (drop start items) (omega (arith, length-drop start items)) in
    let same : drop start items ≡ drop (length own - get_or places n 0) own =
    ap (λ (k : ℕ). drop k items) at ∙ ap (λ (k : ℕ). drop (length items - k) items) counted ∙ ap (λ (cs : List Binding). drop (length cs - get_or places n 0) cs) e in
    subst (λ (bs : List Binding). IsRestAfter n (take (length items - start) (drop start items)) bs) v
    (subst (λ (cs : List Binding). IsRestAfter n cs own) (sym (rest ∙ same)) (behind_at n (get_or places n 0) own (h n)))

pub if_any : (places : List ℕ) (bs : List Binding) → ArePlaces places bs → ArePlacesIfAny places bs
if_any [] bs h = tt
if_any (count ∷ counts) bs h = h

pub if_none : (places : List ℕ) (bs : List Binding) → places ≡ [] → ArePlacesIfAny places bs
if_none places bs e = subst (λ (ps : List ℕ). ArePlacesIfAny ps bs) (sym e) tt

pub some_places : (places : List ℕ) (bs : List Binding) → 0 < length places → ArePlacesIfAny places bs → ArePlaces places bs
some_places [] bs below h = absurd (omega arith)
some_places (count ∷ counts) bs below h = h
