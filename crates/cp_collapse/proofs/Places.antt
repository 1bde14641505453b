-- The places of blocks: which strand is the lowest of the block at a place.
use Rattle.std.proofs.Common.{◌≡◌, ◌⊎◌, inl, inr, ℕ, zero, suc, ◌<◌, ◌≤◌, ◌+◌, ◌-◌, Bool, true, false, ◌&&◌, cond, nat_eq, List, Option, Some, None, length, refl, sym, ap, ◌∙◌, arith, eq-or-lt_of_le, eq-eqb, eqb-true}
use native.Mathlib.Decide.{dec_lt}
use Rattle.cp_lists.specs.Lists.{item_at}
use Rattle.cp_model.specs.Homomorphism.{number_or}
use Rattle.cp_lists.proofs.Items.{item_there, item_past, item_below, other_entry}
use Rattle.cp_collapse.specs.Partitions.{is_own, lowest_before, block_count, place_in}
use Rattle.cp_collapse.proofs.Lowest.{both, least, least_is}

-- The strand is the lowest of its block.
abbrev pub IsOwn : List ℕ → ℕ → Type 0
IsOwn p s = is_own s (item_at p s) ≡ true

pub own_entry : (p : List ℕ) (l : ℕ) → item_at p l ≡ Some l → IsOwn p l
own_entry p l e = rw e (eq-eqb l l refl)

pub own_beyond : (p : List ℕ) (s : ℕ) → item_at p s ≡ None → IsOwn p s
own_beyond p s e = rw e refl

own_cases : (s : ℕ) (o : Option ℕ) → is_own s o ≡ true → (o ≡ None) ⊎ (o ≡ Some s)
own_cases s None e = inl refl
own_cases s (Some l) e = inr (ap Some (eqb-true l s e))

pub entry_of_own : (p : List ℕ) (s : ℕ) → IsOwn p s → (item_at p s ≡ None) ⊎ (item_at p s ≡ Some s)
entry_of_own p s own = own_cases s (item_at p s) own

-- The place rises by one behind each lowest strand, and stays behind the others.
pub rises_own : (p : List ℕ) (n : ℕ) → IsOwn p n → lowest_before p (suc n) ≡ lowest_before p n + 1
rises_own p n own = rw own refl

stays_at : (p : List ℕ) (n l : ℕ) (b : Bool) → item_at p n ≡ Some l → nat_eq l n ≡ b → (l ≡ n → ⊥) → lowest_before p (suc n) ≡ lowest_before p n
stays_at p n l true e q ne = absurd (ne (eqb-true l n q))
stays_at p n l false e q ne = rw (e, q) (omega arith)

pub stays_other : (p : List ℕ) (n l : ℕ) → item_at p n ≡ Some l → (l ≡ n → ⊥) → lowest_before p (suc n) ≡ lowest_before p n
stays_other p n l e ne = stays_at p n l (nat_eq l n) e refl ne

never_falls : (p : List ℕ) (m n : ℕ) → m ≤ n → lowest_before p m ≤ lowest_before p n
never_falls p m zero l = let e : m ≡ 0 = omega (arith, l) in rw e (omega arith)
never_falls p m (suc n) l = by (eq-or-lt_of_le l) (λ k. never_falls p m n k)
  where
    by : (m ≡ suc n) ⊎ (m < suc n) → (m ≤ n → lowest_before p m ≤ lowest_before p n) → lowest_before p m ≤ lowest_before p (suc n)
    by (inl e) rest = rw e (omega arith)
    by (inr below) rest = let r = rest (omega (arith, below)) in omega (arith, r)

pub rises : (p : List ℕ) (m n : ℕ) → IsOwn p m → m < n → lowest_before p m < lowest_before p n
rises p m n own l =
    let r = never_falls p (suc m) n (omega (arith, l)) in
    let e = rises_own p m own in
    omega (arith, r, e)

-- Lowest strands at one place are one strand.
pub one_at_place : (p : List ℕ) (m n : ℕ) → IsOwn p m → IsOwn p n → lowest_before p m ≡ lowest_before p n → m ≡ n
one_at_place p m n a b e = by (dec_lt m n) (dec_lt n m)
  where
    by : Dec (m < n) → Dec (n < m) → m ≡ n
    by (yes l) d = absurd (let r = rises p m n a l in omega (arith, r, e))
    by (no x) (yes l) = absurd (let r = rises p n m b l in omega (arith, r, e))
    by (no x) (no y) = omega (arith, x, y)

-- A lowest strand stands at each place below the count.
taken_next : (p : List ℕ) (n place : ℕ) (b : Bool) → is_own n (item_at p n) ≡ b → place < lowest_before p n + cond b 1 0 → (place < lowest_before p n → (s : ℕ) × (s < n) × IsOwn p s × (lowest_before p s ≡ place)) →
    Dec (place < lowest_before p n) → (s : ℕ) × (s < suc n) × IsOwn p s × (lowest_before p s ≡ place)
taken_next p n place b own l before (yes m) = let r = before m in (r.0, (let q = r.1 in omega (arith, q)), r.2, r.3)
taken_next p n place true own l before (no m) = (n, omega arith, own, omega (arith, l, m))
taken_next p n place false own l before (no m) = absurd (omega (arith, l, m))

pub taken : (p : List ℕ) (n place : ℕ) → place < lowest_before p n → (s : ℕ) × (s < n) × IsOwn p s × (lowest_before p s ≡ place)
taken p zero place l = absurd (omega (arith, l))
taken p (suc n) place l = taken_next p n place (is_own n (item_at p n)) refl l (taken p n place) (dec_lt place (lowest_before p n))

-- The lowest strand of the block at a place: the first that stands there.
abbrev stands_at : List ℕ → ℕ → ℕ → Bool
stands_at p place s = is_own s (item_at p s) && nat_eq (lowest_before p s) place

abbrev pub lowest_of : List ℕ → ℕ → ℕ
lowest_of p place = least (stands_at p place) (suc (place + length p)) 0

-- Past the list each strand is alone, so there are as many places as one wants.
enough : (p : List ℕ) (n : ℕ) → n ≤ lowest_before p n + length p
enough p zero = omega arith
enough p (suc n) = by (dec_lt n (length p)) (enough p n)
  where
    by : Dec (n < length p) → n ≤ lowest_before p n + length p → suc n ≤ lowest_before p (suc n) + length p
    by (yes l) h = omega (arith, l)
    by (no m) h = let e = rises_own p n (own_beyond p n (item_past p n (omega (arith, m)))) in omega (arith, e, h)

stands_there : (p : List ℕ) (s : ℕ) → IsOwn p s → stands_at p (lowest_before p s) s ≡ true
stands_there p s own = rw own (eq-eqb (lowest_before p s) (lowest_before p s) refl)

pub lowest_of_place : (p : List ℕ) (s : ℕ) → IsOwn p s → lowest_of p (lowest_before p s) ≡ s
lowest_of_place p s own = by (least_is (stands_at p place) (suc (place + length p)) 0)
  where
    place : ℕ
    place = lowest_before p s

    by : ((lowest_of p place ≡ 0) × ((t : ℕ) → t < suc (place + length p) → stands_at p place t ≡ false)) ⊎ ((lowest_of p place < suc (place + length p)) × (stands_at p place (lowest_of p place) ≡ true) × ((t : ℕ) → t < lowest_of p place → stands_at p place t ≡ false)) →
        lowest_of p place ≡ s
    by (inl h) = absurd (let e : true ≡ false = sym (stands_there p s own) ∙ h.1 s (let m = enough p s in omega (arith, m)) in cc)
    by (inr h) =
        let r = both (is_own (lowest_of p place) (item_at p (lowest_of p place))) (nat_eq (lowest_before p (lowest_of p place)) place) h.1 in
        one_at_place p (lowest_of p place) s r.0 own (eqb-true (lowest_before p (lowest_of p place)) place r.1)

-- Strands with one entry have one place.
pub place_of_entry : (p : List ℕ) (s l : ℕ) → item_at p s ≡ Some l → place_in p s ≡ lowest_before p l
place_of_entry p s l e = ap (λ (o : Option ℕ). lowest_before p (number_or s o)) e

pub place_beyond : (p : List ℕ) (s : ℕ) → item_at p s ≡ None → place_in p s ≡ lowest_before p s
place_beyond p s e = ap (λ (o : Option ℕ). lowest_before p (number_or s o)) e

pub place_of_own : (p : List ℕ) (s place : ℕ) → IsOwn p s → lowest_before p s ≡ place → place_in p s ≡ place
place_of_own p s place own e = elim (entry_of_own p s own) [ inl none ↦ place_beyond p s none ∙ e | inr some ↦ place_of_entry p s s some ∙ e ]

-- Past the list the places go on from the count of the blocks.
pub count_beyond : (p : List ℕ) (j : ℕ) → lowest_before p (length p + j) ≡ block_count p + j
count_beyond p zero = let e : length p + 0 ≡ length p = omega arith in ap (lowest_before p) e ∙ omega arith
count_beyond p (suc j) =
    let e = count_beyond p j in
    let r = rises_own p (length p + j) (own_beyond p (length p + j) (item_past p (length p + j) (omega arith))) in
    let next : length p + suc j ≡ suc (length p + j) = omega arith in
    ap (lowest_before p) next ∙ r ∙ omega (arith, e)

pub place_past : (p : List ℕ) (s : ℕ) → length p ≤ s → place_in p s ≡ block_count p + (s - length p)
place_past p s le =
    let e : s ≡ length p + (s - length p) = omega (arith, le) in
    place_beyond p s (item_past p s le) ∙ ap (lowest_before p) e ∙ count_beyond p (s - length p)

-- ---- counting strand by strand

pub count_own : (p : List ℕ) (n count : ℕ) → count ≡ lowest_before p n → item_at p n ≡ Some n → count + 1 ≡ lowest_before p (n + 1)
count_own p n count e own =
    let next : suc n ≡ n + 1 = omega arith in
    ap (λ (m : ℕ). m + 1) e ∙ sym (rises_own p n (own_entry p n own)) ∙ ap (lowest_before p) next

pub count_other : (p : List ℕ) (n count : ℕ) → n < length p → count ≡ lowest_before p n → (item_at p n ≡ Some n → ⊥) → count ≡ lowest_before p (n + 1)
count_other p n count less e none =
    let next : suc n ≡ n + 1 = omega arith in
    let r = other_entry p n less none in
    e ∙ sym (stays_other p n r.0 r.1 r.2) ∙ ap (lowest_before p) next

pub count_past : (p : List ℕ) (n m : ℕ) → length p ≤ n → m ≡ lowest_before p (length p) → m + (n - length p) ≡ lowest_before p n
count_past p n m le e =
    let f : length p + (n - length p) ≡ n = omega (arith, le) in
    ap (λ (x : ℕ). x + (n - length p)) e ∙ sym (count_beyond p (n - length p)) ∙ ap (lowest_before p) f

-- At each place of merged strands one of the block that has the place stood before.
pub strand_at_place : {A : Type 0} (strands merged : List A) (p : List ℕ) → length p ≡ length strands → length merged ≡ block_count p → (place : ℕ) (x : A) → item_at merged place ≡ Some x →
    (s : ℕ) × (own : A) × (place_in p s ≡ place) × (item_at strands s ≡ Some own)
strand_at_place strands merged p each count place x at =
    let below = item_below merged place x at in
    let r = taken p (length p) place (omega (arith, below, count)) in
    let within = r.1 in
    let own = item_there strands r.0 (omega (arith, within, each)) in
    (r.0, own.0, place_of_own p r.0 place r.2 r.3, own.1)
