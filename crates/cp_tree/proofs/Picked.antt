-- Candidates among items, and where they stand.
use Rattle.std.proofs.Common.{◌≡◌, ◌⊎◌, inl, inr, ℕ, zero, suc, ◌+◌, ◌<◌, ◌≤◌, List, [], ◌∷◌, Some, map, refl, sym, ap, ◌∙◌, subst, arith}
use Rattle.cp_lists.specs.Lists.{item_at}
use Rattle.cp_model.specs.Skeleton.{Skeleton}
use Rattle.cp_lists.proofs.Items.{map_of_item}
use Rattle.cp_tree.specs.Candidates.{Candidate, CandidatesFrom, skeletons_of, IsLabelAt}

module _ {A : Type 0} (fact : A → Type 0) (skeleton : A → Skeleton) where
  -- The item that a candidate is.
  pub record IsPicked (n : ℕ) (xs : List A) (c : Candidate) : Type 0 where
    pub place : ℕ
    pub item : A
    pub at : item_at xs place ≡ Some item
    pub is_so : fact item
    pub number : c.number ≡ n + place
    pub skeleton_is : c.skeleton ≡ skeleton item

  picked_later : (n : ℕ) (x : A) (xs : List A) (c : Candidate) → IsPicked (suc n) xs c → IsPicked n (x ∷ xs) c
  picked_later n x xs c h = record { place = suc h.place; item = h.item; at = h.at; is_so = h.is_so; number = (let e = h.number in omega (arith, e)); skeleton_is = h.skeleton_is }

  pub picked : (n : ℕ) (xs : List A) (cs : List Candidate) → CandidatesFrom fact skeleton n xs cs → (p : ℕ) (c : Candidate) → item_at cs p ≡ Some c → IsPicked n xs c
  picked n [] cs h p c at = absurd (let e = h in cc)
  picked n (x ∷ xs) cs (inr h) p c at = picked_later n x xs c (picked (suc n) xs cs h.1 p c at)
  picked n (x ∷ xs) cs (inl h) zero c at =
      let e : Some (record { number = n; skeleton = skeleton x }) ≡ Some c = ap (λ (ds : List Candidate). item_at ds 0) (sym h.1.1) ∙ at in
      let q : record { number = n; skeleton = skeleton x } ≡ c = cc in
      record { place = 0; item = x; at = refl; is_so = h.0; number = (let m : n ≡ c.number = ap (λ (d : Candidate). d.number) q in omega (arith, m)); skeleton_is = sym (ap (λ (d : Candidate). d.skeleton) q) }
  picked n (x ∷ xs) cs (inl h) (suc p) c at =
      picked_later n x xs c (picked (suc n) xs h.1.0 h.1.2 p c (ap (λ (ds : List Candidate). item_at ds (suc p)) (sym h.1.1) ∙ at))

  not_before : (n : ℕ) (xs : List A) (cs : List Candidate) → CandidatesFrom fact skeleton n xs cs → (p : ℕ) (c : Candidate) → item_at cs p ≡ Some c → n ≤ c.number
  not_before n xs cs h p c at = let k = (picked n xs cs h p c at).number in omega (arith, k)

  one_number : (n : ℕ) (xs : List A) (cs : List Candidate) → CandidatesFrom fact skeleton n xs cs → (p q : ℕ) (c d : Candidate) → item_at cs p ≡ Some c → item_at cs q ≡ Some d → c.number ≡ d.number → p ≡ q
  one_number n [] cs h p q c d at au e = absurd (let k = h in cc)
  one_number n (x ∷ xs) cs (inr h) p q c d at au e = one_number (suc n) xs cs h.1 p q c d at au e
  one_number n (x ∷ xs) cs (inl h) zero zero c d at au e = refl
  one_number n (x ∷ xs) cs (inl h) (suc p) (suc q) c d at au e =
      ap suc (one_number (suc n) xs h.1.0 h.1.2 p q c d (ap (λ (ds : List Candidate). item_at ds (suc p)) (sym h.1.1) ∙ at) (ap (λ (ds : List Candidate). item_at ds (suc q)) (sym h.1.1) ∙ au) e)
  one_number n (x ∷ xs) cs (inl h) zero (suc q) c d at au e =
      let one : Some (record { number = n; skeleton = skeleton x }) ≡ Some c = ap (λ (ds : List Candidate). item_at ds 0) (sym h.1.1) ∙ at in
      let m : n ≡ c.number = (let same : record { number = n; skeleton = skeleton x } ≡ c = cc in ap (λ (d : Candidate). d.number) same) in
      let l = not_before (suc n) xs h.1.0 h.1.2 q d (ap (λ (ds : List Candidate). item_at ds (suc q)) (sym h.1.1) ∙ au) in
      absurd (omega (arith, m, l, e))
  one_number n (x ∷ xs) cs (inl h) (suc p) zero c d at au e =
      let one : Some (record { number = n; skeleton = skeleton x }) ≡ Some d = ap (λ (ds : List Candidate). item_at ds 0) (sym h.1.1) ∙ au in
      let m : n ≡ d.number = (let same : record { number = n; skeleton = skeleton x } ≡ d = cc in ap (λ (d : Candidate). d.number) same) in
      let l = not_before (suc n) xs h.1.0 h.1.2 p c (ap (λ (ds : List Candidate). item_at ds (suc p)) (sym h.1.1) ∙ at) in
      absurd (omega (arith, m, l, e))

  -- Each item of which the fact is true is a candidate.
  listed_from : (n : ℕ) (xs : List A) (cs : List Candidate) → CandidatesFrom fact skeleton n xs cs → (i : ℕ) (x : A) → item_at xs i ≡ Some x → fact x → (p : ℕ) × (c : Candidate) × (item_at cs p ≡ Some c) × (c.number ≡ n + i)
  listed_from n [] cs h i x at f = absurd (cc)
  listed_from n (y ∷ ys) cs (inl h) zero x at f = (0, record { number = n; skeleton = skeleton y }, ap (λ (ds : List Candidate). item_at ds 0) h.1.1, omega arith)
  listed_from n (y ∷ ys) cs (inr h) zero x at f = absurd (let same : y ≡ x = cc in h.0 (subst fact (sym same) f))
  listed_from n (y ∷ ys) cs (inl h) (suc i) x at f =
      let r = listed_from (suc n) ys h.1.0 h.1.2 i x at f in
      (suc r.0, r.1, ap (λ (ds : List Candidate). item_at ds (suc r.0)) h.1.1 ∙ r.2, (let e = r.3 in omega (arith, e)))
  listed_from n (y ∷ ys) cs (inr h) (suc i) x at f = let r = listed_from (suc n) ys cs h.1 i x at f in (r.0, r.1, r.2, (let e = r.3 in omega (arith, e)))

  -- Their numbers rise.
  rising : (n : ℕ) (xs : List A) (cs : List Candidate) → CandidatesFrom fact skeleton n xs cs → (p q : ℕ) (c d : Candidate) → item_at cs p ≡ Some c → item_at cs q ≡ Some d → p < q → c.number < d.number
  rising n [] cs h p q c d at au l = absurd (let k = h in cc)
  rising n (x ∷ xs) cs (inr h) p q c d at au l = rising (suc n) xs cs h.1 p q c d at au l
  rising n (x ∷ xs) cs (inl h) p zero c d at au l = absurd (omega (arith, l))
  rising n (x ∷ xs) cs (inl h) (suc p) (suc q) c d at au l =
      rising (suc n) xs h.1.0 h.1.2 p q c d (ap (λ (ds : List Candidate). item_at ds (suc p)) (sym h.1.1) ∙ at) (ap (λ (ds : List Candidate). item_at ds (suc q)) (sym h.1.1) ∙ au) (omega (arith, l))
  rising n (x ∷ xs) cs (inl h) zero (suc q) c d at au l =
      let one : Some (record { number = n; skeleton = skeleton x }) ≡ Some c = ap (λ (ds : List Candidate). item_at ds 0) (sym h.1.1) ∙ at in
      let m : n ≡ c.number = (let same : record { number = n; skeleton = skeleton x } ≡ c = cc in ap (λ (e : Candidate). e.number) same) in
      let b = not_before (suc n) xs h.1.0 h.1.2 q d (ap (λ (ds : List Candidate). item_at ds (suc q)) (sym h.1.1) ∙ au) in
      omega (arith, m, b)

  module _ (xs : List A) (cs : List Candidate) (are : CandidatesFrom fact skeleton 0 xs cs) where
    -- Candidates at one number are one.
    pub one_place : (p q i : ℕ) → IsLabelAt cs p i → IsLabelAt cs q i → p ≡ q
    one_place p q i h g = one_number 0 xs cs are p q h.candidate g.candidate h.at g.at (h.number ∙ sym g.number)

    pub record IsItemAt (i : ℕ) (k : Skeleton) : Type 0 where
      pub item : A
      pub at : item_at xs i ≡ Some item
      pub is_so : fact item
      pub skeleton_is : k ≡ skeleton item

    -- A candidate is the item with its number.
    pub item_of : (p i : ℕ) (h : IsLabelAt cs p i) → IsItemAt i h.candidate.skeleton
    item_of p i h =
        let g = picked 0 xs cs are p h.candidate h.at in
        let e : g.place ≡ i = (let a = g.number in let b = h.number in omega (arith, a, b)) in
        record { item = g.item; at = ap (item_at xs) (sym e) ∙ g.at; is_so = g.is_so; skeleton_is = g.skeleton_is }

    pub skeleton_at_place : (p i : ℕ) (h : IsLabelAt cs p i) → item_at (skeletons_of cs) p ≡ Some h.candidate.skeleton
    skeleton_at_place p i h = map_of_item (λ (c : Candidate). c.skeleton) cs p h.candidate h.at

    pub skeleton_at_number : (p i : ℕ) (h : IsLabelAt cs p i) → item_at (map skeleton xs) i ≡ Some h.candidate.skeleton
    skeleton_at_number p i h = let g = item_of p i h in map_of_item skeleton xs i g.item g.at ∙ ap Some (sym g.skeleton_is)

    pub place_of_item : (i : ℕ) (x : A) → item_at xs i ≡ Some x → fact x → (p : ℕ) × IsLabelAt cs p i
    place_of_item i x at f = let r = listed_from 0 xs cs are i x at f in (r.0, record { candidate = r.1; at = r.2; number = (let e = r.3 in omega (arith, e)) })

    -- Candidates stand in the order of their items.
    pub place_before : (p q i j : ℕ) → IsLabelAt cs p i → IsLabelAt cs q j → j < i → q < p
    place_before p q i j a b l = by (apart p q)
      where
        apart : (n m : ℕ) → (n < m) ⊎ ((m < n) ⊎ (n ≡ m))
        apart n m = grind arith

        by : (p < q) ⊎ ((q < p) ⊎ (p ≡ q)) → q < p
        by (inl r) = absurd (let n = a.number in let m = b.number in let s : a.candidate.number < b.candidate.number = rising 0 xs cs are p q a.candidate b.candidate a.at b.at r in omega (arith, l, n, m, s))
        by (inr (inl r)) = r
        by (inr (inr e)) = absurd (
            let n = a.number in
            let m = b.number in
            let f : Some a.candidate ≡ Some b.candidate = sym a.at ∙ (ap (item_at cs) e ∙ b.at) in
            let same : a.candidate.number ≡ b.candidate.number = (let c : a.candidate ≡ b.candidate = cc in ap (λ (d : Candidate). d.number) c) in
            omega (arith, l, n, m, same)
            )
