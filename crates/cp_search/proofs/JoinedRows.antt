-- Rows of numbers, and what is put into them.
use Rattle.std.proofs.Common.{◌≡◌, ◌≢◌, ◌⊎◌, ◌↔◌, inl, inr, ◌∙◌, ℕ, zero, suc, ◌+◌, ◌<◌, ◌≤◌, List, [], ◌∷◌, ◌++◌, length, get_or, take, set, length-set, Bool, true, false, Vec, Option, Some, None, refl, sym, ap, subst, arith}
use Rattle.std.specs.Prelude.{nat_eq, ◌||◌, IsTrue}
use Rattle.std.specs.List.{list_any}
use Rattle.std.proofs.Math.Logic.{⊎_map}
use Rattle.std.proofs.lemmas.Bool.{cases_eq}
use Rattle.std.proofs.lemmas.Bool.Decides.{nat_tests}
use Rattle.std.proofs.lemmas.List.{take_more, take_all, length-append}
use Rattle.cp_lists.specs.Lists.{IsIn, there}
use Rattle.cp_lists.proofs.Members.{not_in_none, in_cases, at_head, in_append_left, in_last, in_pushed, item_in}
use Rattle.cp_search.specs.declared.reachability.Reachability.{Reachability}
use Rattle.cp_search.specs.Reachability.{row_at, given_row, AreBelow, IsDistinct, AreDistinct, AddsToRows, Joins}

-- ---- lists

pub pushed_in : (ns : List ℕ) (n m : ℕ) → IsIn m ns ⊎ (n ≡ m) → IsIn m (ns ++ n ∷ [])
pushed_in ns n m (inl h) = in_append_left (n ∷ []) h
pushed_in ns n m (inr same) = subst (λ (k : ℕ). IsIn k (ns ++ n ∷ [])) same (in_last ns n)

in_front_or_last : (k n : ℕ) (ns : List ℕ) → (IsIn k ns → ⊥) → (n ≡ k → ⊥) → IsIn k (ns ++ n ∷ []) → ⊥
in_front_or_last k n ns front last h = by (in_pushed ns n k h)
  where
    by : IsIn k ns ⊎ (n ≡ k) → ⊥
    by (inl i) = front i
    by (inr e) = last e

pub distinct_pushed : (ns : List ℕ) (n : ℕ) → IsDistinct ns → (IsIn n ns → ⊥) → IsDistinct (ns ++ n ∷ [])
distinct_pushed [] n d apart = (not_in_none, tt)
distinct_pushed (k ∷ ns) n d apart = (in_front_or_last k n ns d.0 (λ e. apart (at_head e)), distinct_pushed ns n d.1 (λ h. apart (there h)))

-- A number does not stand among those before its place.
pub not_before : (ns : List ℕ) (i : ℕ) → i < length ns → IsDistinct ns → IsIn (get_or ns i 0) (take i ns) → ⊥
not_before [] i l d h = absurd (omega (arith, l))
not_before (n ∷ ns) zero l d h = not_in_none h
not_before (n ∷ ns) (suc i) l d h = first_or_later (in_cases h) (not_before ns i (omega (arith, l)) d.1)
  where
    first_or_later : (n ≡ get_or ns i 0) ⊎ IsIn (get_or ns i 0) (take i ns) → (IsIn (get_or ns i 0) (take i ns) → ⊥) → ⊥
    first_or_later (inl e) later = d.0 (subst (λ (k : ℕ). IsIn k ns) (sym e) (item_in ns i 0 (omega (arith, l))))
    first_or_later (inr g) later = later g

only_one : (n m : ℕ) → IsIn m (n ∷ []) → n ≡ m
only_one n m h = by (in_cases h)
  where
    by : (n ≡ m) ⊎ IsIn m [] → n ≡ m
    by (inl e) = e
    by (inr g) = absurd (not_in_none g)

-- Of the first numbers up to this one each is this, or among those before.
pub next_taken : (ns : List ℕ) (i m : ℕ) → i < length ns → IsIn m (take (i + 1) ns) ↔ (IsIn m (take i ns) ⊎ (get_or ns i 0 ≡ m))
next_taken ns i m l =
    let more : take (i + 1) ns ≡ take i ns ++ get_or ns i 0 ∷ [] = take_more ns i 0 l in
    (λ h. in_pushed (take i ns) (get_or ns i 0) m (subst (IsIn m) more h), λ h. subst (IsIn m) (sym more) (pushed_in (take i ns) (get_or ns i 0) m h))

-- A number is in a list exactly if an item equals it.
module _ (k n : ℕ) (rest : Bool) (ns : List ℕ) where
  first_or_rest : (IsTrue rest → IsIn n ns) → (b : Bool) → nat_eq k n ≡ b → IsTrue (b || rest) → IsIn n (k ∷ ns)
  first_or_rest behind true e h = let same : n ≡ k = grind (arith, nat_tests) in at_head same
  first_or_rest behind false e h = there (behind h)

  first_tells : (IsIn n ns → IsTrue rest) → (b : Bool) → nat_eq k n ≡ b → (k ≡ n) ⊎ IsIn n ns → IsTrue (b || rest)
  first_tells behind true e h = refl
  first_tells behind false e (inl same) = let test : nat_eq k n ≡ true = grind (arith, nat_tests) in absurd (cc)
  first_tells behind false e (inr h) = behind h

listed_if : (ns : List ℕ) (n : ℕ) → IsTrue (list_any (λ k. nat_eq k n) ns) → IsIn n ns
listed_if [] n h = absurd (cc)
listed_if (k ∷ ns) n h = first_or_rest k n (list_any (λ j. nat_eq j n) ns) ns (listed_if ns n) (nat_eq k n) refl h

if_listed : (ns : List ℕ) (n : ℕ) → IsIn n ns → IsTrue (list_any (λ k. nat_eq k n) ns)
if_listed [] n h = absurd (not_in_none h)
if_listed (k ∷ ns) n h = first_tells k n (list_any (λ j. nat_eq j n) ns) ns (if_listed ns n) (nat_eq k n) refl (in_cases h)

pub is_listed : (ns : List ℕ) (n : ℕ) (b : Bool) → b ≡ list_any (λ k. nat_eq k n) ns → IsTrue b ↔ IsIn n ns
is_listed ns n b is = (λ h. listed_if ns n (sym is ∙ h), λ h. is ∙ if_listed ns n h)

-- ---- rows

module _ {A : Type 0} where
  pub read_row : (rows : List (Vec ℕ A)) (i : ℕ) (row : Vec ℕ A) → i < length rows → row ≡ get_or rows i row → row.items ≡ row_at rows i
  read_row [] i row l e = absurd (omega (arith, l))
  read_row (x ∷ rows) zero row l e = ap (λ (r : Vec ℕ A). r.items) e
  read_row (x ∷ rows) (suc i) row l e = read_row rows i row (omega (arith, l)) e

  row_here : (rows : List (Vec ℕ A)) (i : ℕ) (row : Vec ℕ A) → i < length rows → row_at (set rows i row) i ≡ row.items
  row_here [] i row l = absurd (omega (arith, l))
  row_here (x ∷ rows) zero row l = refl
  row_here (x ∷ rows) (suc i) row l = row_here rows i row (omega (arith, l))

  row_elsewhere : (rows : List (Vec ℕ A)) (i : ℕ) (row : Vec ℕ A) (n : ℕ) → i ≢ n → row_at (set rows i row) n ≡ row_at rows n
  row_elsewhere [] i row n ne = refl
  row_elsewhere (x ∷ rows) zero row zero ne = absurd (ne refl)
  row_elsewhere (x ∷ rows) zero row (suc n) ne = refl
  row_elsewhere (x ∷ rows) (suc i) row zero ne = refl
  row_elsewhere (x ∷ rows) (suc i) row (suc n) ne = row_elsewhere rows i row n (λ e. ne (ap suc e))

  -- Where an empty row comes behind, the same stands in the rows.
  pub with_empty_row : (rows : List (Vec ℕ A)) (row : Vec ℕ A) (n : ℕ) → row.items ≡ [] → row_at (rows ++ row ∷ []) n ≡ row_at rows n
  with_empty_row [] row zero none = none
  with_empty_row [] row (suc n) none = refl
  with_empty_row (x ∷ rows) row zero none = refl
  with_empty_row (x ∷ rows) row (suc n) none = with_empty_row rows row n none

  -- What stands in the row that is given.
  pub in_given : (rows : List (Vec ℕ A)) (o : Option ℕ) (m : ℕ) → IsIn m (given_row rows o) → (n : ℕ) × (o ≡ Some n) × IsIn m (row_at rows n)
  in_given rows None m h = absurd (not_in_none h)
  in_given rows (Some n) m h = (n, refl, h)

  pub given_in : (rows : List (Vec ℕ A)) (o : Option ℕ) (n m : ℕ) → o ≡ Some n → IsIn m (row_at rows n) → IsIn m (given_row rows o)
  given_in rows o n m e h = subst (λ (p : Option ℕ). IsIn m (given_row rows p)) (sym e) h

  -- A number is put behind a row.
  module _ (rows : List (Vec ℕ A)) (i number : ℕ) (old new : Vec ℕ A) (l : i < length rows) (apart : IsIn number (row_at rows i) → ⊥) (is : old ≡ get_or rows i old) (pushed : new.items ≡ old.items ++ number ∷ []) where
    here_put : (n : ℕ) → i ≡ n → row_at (set rows i new) n ≡ row_at rows n ++ number ∷ []
    here_put n same =
        let at : row_at (set rows i new) i ≡ row_at rows i ++ number ∷ [] = row_here rows i new l ∙ (pushed ∙ ap (λ (ns : List ℕ). ns ++ number ∷ []) (read_row rows i old l is)) in
        subst (λ (k : ℕ). row_at (set rows i new) k ≡ row_at rows k ++ number ∷ []) same at

    put_in : (n m : ℕ) → (i ≡ n) ⊎ (i ≡ n → ⊥) → IsIn m (row_at (set rows i new) n) → IsIn m (row_at rows n) ⊎ ((i ≡ n) × (number ≡ m))
    put_in n m (inl same) h = ⊎_map (λ was. was) (λ e. (same, e)) (in_pushed (row_at rows n) number m (subst (IsIn m) (here_put n same) h))
    put_in n m (inr other) h = inl (subst (IsIn m) (row_elsewhere rows i new n other) h)

    still_in : (n m : ℕ) → (i ≡ n) ⊎ (i ≡ n → ⊥) → IsIn m (row_at rows n) → IsIn m (row_at (set rows i new) n)
    still_in n m (inl same) h = subst (IsIn m) (sym (here_put n same)) (in_append_left (number ∷ []) h)
    still_in n m (inr other) h = subst (IsIn m) (sym (row_elsewhere rows i new n other)) h

    in_put : (n m : ℕ) → IsIn m (row_at rows n) ⊎ ((i ≡ n) × (number ≡ m)) → IsIn m (row_at (set rows i new) n)
    in_put n m (inl h) = still_in n m (cases_eq i n) h
    in_put n m (inr e) = subst (IsIn m) (sym (here_put n e.0)) (pushed_in (row_at rows n) number m (inr e.1))

    put_distinct : AreDistinct rows → (n : ℕ) → (i ≡ n) ⊎ (i ≡ n → ⊥) → IsDistinct (row_at (set rows i new) n)
    put_distinct d n (inl same) = subst IsDistinct (sym (here_put n same)) (distinct_pushed (row_at rows n) number (d n) (subst (λ (k : ℕ). IsIn number (row_at rows k) → ⊥) same apart))
    put_distinct d n (inr other) = subst IsDistinct (sym (row_elsewhere rows i new n other)) (d n)

    pub puts_one : AddsToRows (λ n m. (i ≡ n) × (number ≡ m)) rows (set rows i new)
    puts_one = record {
      count = length-set rows i new;
      listed = λ n m. (put_in n m (cases_eq i n), in_put n m);
      distinct = λ d n. put_distinct d n (cases_eq i n);
    }

  -- The same is added.
  adds_alike : (P Q : ℕ → ℕ → Type 0) (old new : List (Vec ℕ A)) → ((n m : ℕ) → P n m ↔ Q n m) → AddsToRows P old new → AddsToRows Q old new
  adds_alike P Q old new same a = record {
    count = a.count;
    listed = λ n m. (λ h. ⊎_map (λ g. g) (same n m).0 ((a.listed n m).0 h), λ h. (a.listed n m).1 (⊎_map (λ g. g) (same n m).1 h));
    distinct = a.distinct;
  }

  -- One is added after the other.
  adds_then : (P Q : ℕ → ℕ → Type 0) (old mid new : List (Vec ℕ A)) → AddsToRows P old mid → AddsToRows Q mid new → AddsToRows (λ n m. P n m ⊎ Q n m) old new
  adds_then P Q old mid new a b = record { count = b.count ∙ a.count; listed = λ n m. (λ h. after n m ((b.listed n m).0 h), λ h. (b.listed n m).1 (before n m h)); distinct = λ d. b.distinct (a.distinct d) }
    where
      after : (n m : ℕ) → IsIn m (row_at mid n) ⊎ Q n m → IsIn m (row_at old n) ⊎ (P n m ⊎ Q n m)
      after n m (inl h) = ⊎_map (λ g. g) inl ((a.listed n m).0 h)
      after n m (inr q) = inr (inr q)

      before : (n m : ℕ) → IsIn m (row_at old n) ⊎ (P n m ⊎ Q n m) → IsIn m (row_at mid n) ⊎ Q n m
      before n m (inl h) = inl ((a.listed n m).1 (inl h))
      before n m (inr added) = ⊎_map (λ p. (a.listed n m).1 (inr p)) (λ q. q) added

  -- The number is put behind one row more.
  module _ (chosen : List ℕ) (i number : ℕ) (l : i < length chosen) (old mid : List (Vec ℕ A)) (so_far : AddsToRows (λ n m. IsIn n (take i chosen) × IsIn m (number ∷ [])) old mid) where
    abbrev chosen_row : ℕ
    chosen_row = get_or chosen i 0

    pub row_within : AreBelow (length old) chosen → chosen_row < length mid
    row_within below = let k : chosen_row < length old = below chosen_row (item_in chosen i 0 l) in let count = so_far.count in omega (arith, k, count)

    pub not_yet_put : IsDistinct chosen → ((n : ℕ) → IsIn number (row_at old n) → ⊥) → IsIn number (row_at mid chosen_row) → ⊥
    not_yet_put distinct apart h = by ((so_far.listed chosen_row number).0 h)
      where
        by : IsIn number (row_at old chosen_row) ⊎ (IsIn chosen_row (take i chosen) × IsIn number (number ∷ [])) → ⊥
        by (inl was) = apart chosen_row was
        by (inr p) = not_before chosen i l distinct p.0

    abbrev Either : ℕ → ℕ → Type 0
    Either n m = (IsIn n (take i chosen) × IsIn m (number ∷ [])) ⊎ ((chosen_row ≡ n) × (number ≡ m))

    pub row_put : (new : List (Vec ℕ A)) → AddsToRows (λ n m. (chosen_row ≡ n) × (number ≡ m)) mid new → AddsToRows (λ n m. IsIn n (take (i + 1) chosen) × IsIn m (number ∷ [])) old new
    row_put new put =
        adds_alike Either (λ n m. IsIn n (take (i + 1) chosen) × IsIn m (number ∷ [])) old new (λ n m. (among n m, λ p. before_or_now n m p.1 ((next_taken chosen i n l).0 p.0)))
        (adds_then (λ n m. IsIn n (take i chosen) × IsIn m (number ∷ [])) (λ n m. (chosen_row ≡ n) × (number ≡ m)) old mid new so_far put)
      where
        among : (n m : ℕ) → Either n m → IsIn n (take (i + 1) chosen) × IsIn m (number ∷ [])
        among n m (inl p) = ((next_taken chosen i n l).1 (inl p.0), p.1)
        among n m (inr p) = ((next_taken chosen i n l).1 (inr p.0), at_head (sym p.1))

        before_or_now : (n m : ℕ) → IsIn m (number ∷ []) → IsIn n (take i chosen) ⊎ (chosen_row ≡ n) → Either n m
        before_or_now n m k (inl h) = inl (h, k)
        before_or_now n m k (inr e) = inr (e, only_one number m k)

  pub put_in_all : (chosen : List ℕ) (i number : ℕ) → length chosen ≤ i → (old new : List (Vec ℕ A)) → AddsToRows (λ n m. IsIn n (take i chosen) × IsIn m (number ∷ [])) old new →
      AddsToRows (λ n m. IsIn n chosen × IsIn m (number ∷ [])) old new
  put_in_all chosen i number done old new h = subst (λ (ns : List ℕ). AddsToRows (λ n m. IsIn n ns × IsIn m (number ∷ [])) old new) (take_all i chosen done) h

  -- The last row, where an empty one could stand.
  last_row : (rows : List (Vec ℕ A)) (row : Vec ℕ A) → row_at (rows ++ row ∷ []) (length rows) ≡ row.items
  last_row [] row = refl
  last_row (x ∷ rows) row = last_row rows row

  not_last_row : (rows : List (Vec ℕ A)) (row other : Vec ℕ A) (n : ℕ) → (length rows ≡ n → ⊥) → row_at (rows ++ row ∷ []) n ≡ row_at (rows ++ other ∷ []) n
  not_last_row [] row other zero ne = absurd (ne refl)
  not_last_row [] row other (suc n) ne = refl
  not_last_row (x ∷ rows) row other zero ne = refl
  not_last_row (x ∷ rows) row other (suc n) ne = not_last_row rows row other n (λ e. ne (ap suc e))

  module _ (rows : List (Vec ℕ A)) (empty full : Vec ℕ A) (none : empty.items ≡ []) where
    abbrev InLast : ℕ → ℕ → Type 0
    InLast n m = IsIn m full.items × IsIn n (length rows ∷ [])

    filled_here : (n : ℕ) → length rows ≡ n → row_at (rows ++ full ∷ []) n ≡ full.items
    filled_here n same = subst (λ (k : ℕ). row_at (rows ++ full ∷ []) k ≡ full.items) same (last_row rows full)

    in_filled : (n m : ℕ) → (length rows ≡ n) ⊎ (length rows ≡ n → ⊥) → IsIn m (row_at (rows ++ full ∷ []) n) → IsIn m (row_at (rows ++ empty ∷ []) n) ⊎ InLast n m
    in_filled n m (inl same) h = inr (subst (IsIn m) (filled_here n same) h, at_head (sym same))
    in_filled n m (inr other) h = inl (subst (IsIn m) (not_last_row rows full empty n other) h)

    still_filled : (n m : ℕ) → (length rows ≡ n) ⊎ (length rows ≡ n → ⊥) → IsIn m (row_at (rows ++ empty ∷ []) n) ⊎ InLast n m → IsIn m (row_at (rows ++ full ∷ []) n)
    still_filled n m (inl same) (inl h) = absurd (not_in_none (subst (IsIn m) (subst (λ (k : ℕ). row_at (rows ++ empty ∷ []) k ≡ []) same (last_row rows empty ∙ none)) h))
    still_filled n m (inr other) (inl h) = subst (IsIn m) (sym (not_last_row rows full empty n other)) h
    still_filled n m at (inr p) = subst (IsIn m) (sym (filled_here n (only_one (length rows) n p.1))) p.0

    distinct_filled : IsDistinct full.items → AreDistinct (rows ++ empty ∷ []) → (n : ℕ) → (length rows ≡ n) ⊎ (length rows ≡ n → ⊥) → IsDistinct (row_at (rows ++ full ∷ []) n)
    distinct_filled own d n (inl same) = subst IsDistinct (sym (filled_here n same)) own
    distinct_filled own d n (inr other) = subst IsDistinct (sym (not_last_row rows full empty n other)) (d n)

    pub fills_last : IsDistinct full.items → AddsToRows InLast (rows ++ empty ∷ []) (rows ++ full ∷ [])
    fills_last own = record {
      count = length-append rows (full ∷ []) ∙ sym (length-append rows (empty ∷ []));
      listed = λ n m. (in_filled n m (cases_eq (length rows) n), still_filled n m (cases_eq (length rows) n));
      distinct = λ d n. distinct_filled own d n (cases_eq (length rows) n);
    }

  pub given_distinct : (rows : List (Vec ℕ A)) (o : Option ℕ) → AreDistinct rows → IsDistinct (given_row rows o)
  given_distinct rows None d = tt
  given_distinct rows (Some n) d = d n

-- ---- both tables

module _ (P : ℕ → ℕ → Type 0) (old new : Reachability) (joined : Joins P old new) where
  pub joins_alike : (Q : ℕ → ℕ → Type 0) → ((n m : ℕ) → P n m ↔ Q n m) → Joins Q old new
  joins_alike Q same = record {
    reaches = adds_alike P Q old.reaches.items new.reaches.items same joined.reaches;
    reached_from = adds_alike (λ m n. P n m) (λ m n. Q n m) old.reached_from.items new.reached_from.items (λ m n. same n m) joined.reached_from;
  }

  pub still_has_row : (n : ℕ) → n < length old.reaches.items → n < length new.reaches.items
  still_has_row n l = subst (λ (count : ℕ). n < count) (sym joined.reaches.count) l

  pub still_has_column : (n : ℕ) → n < length old.reached_from.items → n < length new.reached_from.items
  still_has_column n l = subst (λ (count : ℕ). n < count) (sym joined.reached_from.count) l

  pub join_then : (Q : ℕ → ℕ → Type 0) (last : Reachability) → Joins Q new last → Joins (λ n m. P n m ⊎ Q n m) old last
  join_then Q last next = record {
    reaches = adds_then P Q old.reaches.items new.reaches.items last.reaches.items joined.reaches next.reaches;
    reached_from = adds_then (λ m n. P n m) (λ m n. Q n m) old.reached_from.items new.reached_from.items last.reached_from.items joined.reached_from next.reached_from;
  }

-- ---- number by number

-- It was noted what each of the numbers has to do with two labels.
abbrev pub JoinsEach : (ℕ → ℕ → ℕ → Type 0) → List ℕ → Reachability → Reachability → Type 0
JoinsEach rel ks = Joins (λ n m. (k : ℕ) × IsIn k ks × rel k n m)

module _ (rel : ℕ → ℕ → ℕ → Type 0) (ks : List ℕ) where
  module _ (i : ℕ) (l : i < length ks) where
    abbrev next : ℕ
    next = get_or ks i 0

    abbrev Before : ℕ → ℕ → Type 0
    Before n m = (k : ℕ) × IsIn k (take i ks) × rel k n m

    or_next : (n m : ℕ) → Before n m ⊎ rel next n m → (k : ℕ) × IsIn k (take (i + 1) ks) × rel k n m
    or_next n m (inl h) = (h.0, (next_taken ks i h.0 l).1 (inl h.1), h.2)
    or_next n m (inr r) = (next, (next_taken ks i next l).1 (inr refl), r)

    before_or_next : (n m k : ℕ) → rel k n m → IsIn k (take i ks) ⊎ (next ≡ k) → Before n m ⊎ rel next n m
    before_or_next n m k r (inl h) = inl (k, h, r)
    before_or_next n m k r (inr same) = inr (subst (λ (x : ℕ). rel x n m) (sym same) r)

    pub next_joined : (old mid new : Reachability) → JoinsEach rel (take i ks) old mid → Joins (rel next) mid new → JoinsEach rel (take (i + 1) ks) old new
    next_joined old mid new so_far joined =
        joins_alike (λ n m. Before n m ⊎ rel next n m) old new (join_then Before old mid so_far (rel next) new joined) (λ n m. (k : ℕ) × IsIn k (take (i + 1) ks) × rel k n m)
        (λ n m. (or_next n m, λ h. before_or_next n m h.0 h.2 ((next_taken ks i h.0 l).0 h.1)))

  pub all_joined : (i : ℕ) → length ks ≤ i → (old new : Reachability) → JoinsEach rel (take i ks) old new → JoinsEach rel ks old new
  all_joined i done old new joined = subst (λ (xs : List ℕ). JoinsEach rel xs old new) (take_all i ks done) joined

-- Each target is joined to the source.
pub to_targets : (source : ℕ) (targets : List ℕ) (old new : Reachability) → JoinsEach (λ k n m. (source ≡ n) × (k ≡ m)) targets old new → Joins (λ n m. (source ≡ n) × IsIn m targets) old new
to_targets source targets old new joined = joins_alike (λ n m. (k : ℕ) × IsIn k targets × ((source ≡ n) × (k ≡ m))) old new joined (λ n m. (source ≡ n) × IsIn m targets) (λ n m. (
  λ h. (h.2.0, subst (λ (k : ℕ). IsIn k targets) h.2.1 h.1),
  λ h. (m, h.1, (h.0, refl)),
))
