-- Rows that tell what is a shape, and the first shape of a row.
use Rattle.std.proofs.Common.{◌≡◌, ◌↔◌, ◌⊎◌, inl, inr, ℕ, ◌+◌, ◌<◌, ◌≤◌, List, [], ◌∷◌, Bool, true, false, nat_eq, if◌then◌else◌, length, drop, get_or, Option, Some, None, refl, sym, ap, subst, ◌∙◌, arith, eq-eqb, eqb-true}
use Rattle.cp_lists.proofs.Members.{drop_read, item_is_in}
use Rattle.cp_lists.specs.Lists.{item_at, IsIn, here, there}
use Rattle.cp_model.specs.Skeleton.{Skeleton}
use Rattle.cp_lists.proofs.Items.{item_below, item_there}
use Rattle.cp_shapes.specs.Shapes.{IsLeast, FindsLeast, IsInstanceWithin, IsShapeAt, IsInstanceOfShape, IsMarkOf}
use Rattle.std.proofs.lemmas.List.{drop_all, nil_from_length}
use Rattle.cp_shapes.specs.Rows.{IsRising, IsRowOf, AreEmbeddingRowsOf, is_empty_row}
use Rattle.cp_shapes.proofs.RisingRows.{rising_behind}
use Rattle.cp_shapes.proofs.Instances.{embeds_first_within, instance_on}
use Rattle.cp_shapes.proofs.Minimal.{IsMinimalBelow, minimal_below}

-- ---- what tells of an instance

abbrev has : List ℕ → ℕ → Bool
has [] n = false
has (m ∷ ms) n = if nat_eq m n then true else has ms n

has_in : (ms : List ℕ) (n : ℕ) → has ms n ≡ true → IsIn n ms
has_in [] n e = absurd (cc)
has_in (m ∷ ms) n e = by (nat_eq m n) refl (has_in ms n)
  where
    by : (b : Bool) → nat_eq m n ≡ b → (has ms n ≡ true → IsIn n ms) → IsIn n (m ∷ ms)
    by true q rest = subst (λ (x : ℕ). IsIn x (m ∷ ms)) (eqb-true m n q) here
    by false q rest = there (rest (let h : (if nat_eq m n then true else has ms n) ≡ has ms n = rw q refl in sym h ∙ e))

has_first : (ms : List ℕ) (m n : ℕ) → m ≡ n → has (m ∷ ms) n ≡ true
has_first ms m n e = rw (eq-eqb m n e) refl

has_more : (ms : List ℕ) (m n : ℕ) (b : Bool) → nat_eq m n ≡ b → has ms n ≡ true → has (m ∷ ms) n ≡ true
has_more ms m n true q h = rw q refl
has_more ms m n false q h = rw q h

in_has : (ms : List ℕ) (n : ℕ) → IsIn n ms → has ms n ≡ true
in_has (m ∷ ms) n here = has_first ms m n refl
in_has (m ∷ ms) n (there i) = has_more ms m n (nat_eq m n) refl (in_has ms n i)
in_has [] n i = elim i [ ]

abbrev or_none : Option (List ℕ) → List ℕ
or_none (Some row) = row
or_none None = []

module _ (ks : List Skeleton) (rows : List (List ℕ)) (are : AreEmbeddingRowsOf ks rows) where
  abbrev row : ℕ → List ℕ
  row m = or_none (item_at rows m)

  row_of : (m : ℕ) → m < length ks → (r : List ℕ) × (item_at rows m ≡ Some r)
  row_of m l = item_there rows m (let e = are.count in omega (arith, l, e))

  -- The candidate is the same, or one of which it is an instance.
  abbrev below : ℕ → ℕ → Bool
  below n m = if nat_eq n m then true else has (row m) n

  instance_bound : (m n : ℕ) → IsInstanceWithin ks m n → m < length ks
  instance_bound m n h = item_below ks m h.embeds.second h.embeds.at_second

  has_instance : (m n : ℕ) (o : Option (List ℕ)) → item_at rows m ≡ o → has (or_none o) n ≡ true → IsInstanceWithin ks m n
  has_instance m n None q e = absurd (cc)
  has_instance m n (Some r) q e = ((are.each m r q).listed n).0 (has_in r n e)

  instance_has : (m n : ℕ) → IsInstanceWithin ks m n → has (row m) n ≡ true
  instance_has m n h =
      let r = row_of m (instance_bound m n h) in
      ap (λ (o : Option (List ℕ)). has (or_none o) n) r.1 ∙ in_has r.0 n (((are.each m r.0 r.1).listed n).1 h)

  by_below : (n m : ℕ) (b : Bool) → nat_eq n m ≡ b → below n m ≡ true → (n ≡ m) ⊎ IsInstanceWithin ks m n
  by_below n m true q e = inl (eqb-true n m q)
  by_below n m false q e = inr (has_instance m n (item_at rows m) refl (let h : below n m ≡ has (row m) n = rw q refl in sym h ∙ e))

  from_below : (n m : ℕ) → below n m ≡ true → (n ≡ m) ⊎ IsInstanceWithin ks m n
  from_below n m e = by_below n m (nat_eq n m) refl e

  to_below : (n m : ℕ) (b : Bool) → nat_eq n m ≡ b → IsInstanceWithin ks m n → below n m ≡ true
  to_below n m true q h = rw q refl
  to_below n m false q h = rw q (instance_has m n h)

  same_below : (n m : ℕ) → n ≡ m → below n m ≡ true
  same_below n m e = rw (eq-eqb n m e) refl

  either_below : (n m : ℕ) → (n ≡ m) ⊎ IsInstanceWithin ks m n → below n m ≡ true
  either_below n m (inl e) = same_below n m e
  either_below n m (inr h) = to_below n m (nat_eq n m) refl h

  on_below : (n m l : ℕ) → (n ≡ m) ⊎ IsInstanceWithin ks m n → (m ≡ l) ⊎ IsInstanceWithin ks l m → (n ≡ l) ⊎ IsInstanceWithin ks l n
  on_below n m l (inl e) (inl f) = inl (e ∙ f)
  on_below n m l (inl e) (inr g) = inr (subst (IsInstanceWithin ks l) (sym e) g)
  on_below n m l (inr h) (inl f) = inr (subst (λ (x : ℕ). IsInstanceWithin ks x n) f h)
  on_below n m l (inr h) (inr g) = inr (instance_on ks l m n g h)

  both_below : (n m : ℕ) → (n ≡ m) ⊎ IsInstanceWithin ks m n → (m ≡ n) ⊎ IsInstanceWithin ks n m → n ≡ m
  both_below n m (inl e) g = e
  both_below n m (inr h) (inl f) = sym f
  both_below n m (inr h) (inr g) = absurd ((instance_on ks n m n g h).other refl)

  minimal : (m : ℕ) → (j : ℕ) × IsMinimalBelow below (λ i. true) (length ks) m j
  minimal m = minimal_below below (λ i. true)
      (λ i h. same_below i i refl)
      (λ i j k h g. either_below i k (on_below i j k (from_below i j h) (from_below j k g)))
      (λ i j a b h g. both_below i j (from_below i j h) (from_below j i g))
      (length ks) m refl

  minimal_is_shape : (j : ℕ) → j < length ks → ((k : ℕ) → k < length ks → below k j ≡ true → k ≡ j) → IsShapeAt ks j
  minimal_is_shape j l least = record {
    within = l;
    no_instance = λ k h. h.other (least k (embeds_first_within ks k j h.embeds) (either_below k j (inr h)));
  }

  shape_or : (m j : ℕ) → m < length ks → (j ≡ m) ⊎ IsInstanceWithin ks m j → ((k : ℕ) → k < length ks → below k j ≡ true → k ≡ j) → IsShapeAt ks m ⊎ ((n : ℕ) × IsInstanceOfShape ks m n)
  shape_or m j l (inl e) least = inl (subst (IsShapeAt ks) e (minimal_is_shape j (subst (λ (x : ℕ). x < length ks) (sym e) l) least))
  shape_or m j l (inr h) least = inr (j, (minimal_is_shape j (embeds_first_within ks j m h.embeds) least, h))

  -- A candidate is a shape, or an instance of one.
  pub shape_or_instance : (m : ℕ) → m < length ks → IsShapeAt ks m ⊎ ((n : ℕ) × IsInstanceOfShape ks m n)
  shape_or_instance m l = let j = minimal m in shape_or m j.0 l (from_below j.0 m j.1.below) (λ k less b. j.1.least k less refl b)

  marked : (m : ℕ) → IsShapeAt ks m ⊎ ((n : ℕ) × IsInstanceOfShape ks m n) → (found : Option ℕ) → FindsLeast (IsInstanceOfShape ks m) found → IsMarkOf ks m found
  marked m other (Some n) f = f
  marked m (inl s) None f = s
  marked m (inr h) None f = absurd (f h.0 h.1)

  -- What is found for a candidate is what it is.
  pub found_marks : (m : ℕ) → m < length ks → (found : Option ℕ) → FindsLeast (IsInstanceOfShape ks m) found → IsMarkOf ks m found
  found_marks m l found f = marked m (shape_or_instance m l) found f

  -- ---- rows of shapes

  empty_row : (m : ℕ) (r : List ℕ) → item_at rows m ≡ Some r → r ≡ [] → IsShapeAt ks m
  empty_row m r at e = record {
    within = (let l : m < length rows = item_below rows m r at in let c = are.count in omega (arith, l, c));
    no_instance = λ n h. elim (subst (IsIn n) e (((are.each m r at).listed n).1 h)) [ ];
  }

  row_empty : (m : ℕ) (r : List ℕ) → item_at rows m ≡ Some r → IsShapeAt ks m → r ≡ []
  row_empty m [] at s = refl
  row_empty m (n ∷ ns) at s = absurd (s.no_instance n (((are.each m (n ∷ ns) at).listed n).0 here))

  flag_of_row : (m : ℕ) (o : Option (List ℕ)) → item_at rows m ≡ o → is_empty_row o ≡ true → IsShapeAt ks m
  flag_of_row m None at e = absurd (cc)
  flag_of_row m (Some r) at e = empty_row m r at (nil_from_length r (eqb-true (length r) 0 e))

  flag_of_shape : (m : ℕ) → IsShapeAt ks m → is_empty_row (item_at rows m) ≡ true
  flag_of_shape m s = let r = row_of m s.within in ap is_empty_row r.1 ∙ eq-eqb (length r.0) 0 (ap length (row_empty m r.0 r.1 s))

  -- A candidate is a shape exactly where its row is empty.
  pub row_tells : (m : ℕ) → (is_empty_row (item_at rows m) ≡ true) ↔ IsShapeAt ks m
  row_tells m = (flag_of_row m (item_at rows m) refl, flag_of_shape m)

-- ---- the first shape of a row

module _ (ks : List Skeleton) (m : ℕ) (row : List ℕ) (is : IsRowOf ks m row) (i n : ℕ) (within : i < length row) (here_is : n ≡ get_or row i n) where
  split : drop i row ≡ n ∷ drop (i + 1) row
  split = drop_read row i n within here_is

  pub found_first : ((k : ℕ) → IsInstanceOfShape ks m k → IsIn k (drop i row)) → IsShapeAt ks n → IsLeast (IsInstanceOfShape ks m) n
  found_first left shape = record {
    holds = (shape, (is.listed n).0 (item_is_in row i n within here_is));
    least = λ k less h. before k less (subst (IsIn k) split (left k h));
  }
    where
      above : IsRising (n ∷ drop (i + 1) row)
      above = subst IsRising split (rising_behind i row is.rising)

      before : (k : ℕ) → k < n → IsIn k (n ∷ drop (i + 1) row) → ⊥
      before k less here = omega (arith, less)
      before k less (there j) = let l = above.0 k j in omega (arith, less, l)

  behind : (k : ℕ) → (IsShapeAt ks n → ⊥) → IsInstanceOfShape ks m k → IsIn k (n ∷ drop (i + 1) row) → IsIn k (drop (i + 1) row)
  behind k not h here = absurd (not h.0)
  behind k not h (there j) = j

  pub not_first : ((k : ℕ) → IsInstanceOfShape ks m k → IsIn k (drop i row)) → (IsShapeAt ks n → ⊥) → (k : ℕ) → IsInstanceOfShape ks m k → IsIn k (drop (i + 1) row)
  not_first left not k h = behind k not h (subst (IsIn k) split (left k h))

pub all_left : (ks : List Skeleton) (m : ℕ) (row : List ℕ) → IsRowOf ks m row → (k : ℕ) → IsInstanceOfShape ks m k → IsIn k row
all_left ks m row is k h = (is.listed k).1 h.1

pub none_left : (ks : List Skeleton) (m : ℕ) (row : List ℕ) (i : ℕ) → length row ≤ i → ((k : ℕ) → IsInstanceOfShape ks m k → IsIn k (drop i row)) → (k : ℕ) → IsInstanceOfShape ks m k → ⊥
none_left ks m row i all left k h = elim (subst (IsIn k) (drop_all i row all) (left k h)) [ ]
