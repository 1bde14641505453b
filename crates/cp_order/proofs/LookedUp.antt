-- What reaches which node along one of closed pairs: what is found in rows, and rows as they are made.
use Rattle.std.proofs.Common.{if◌then◌else◌, ◌≡◌, ◌↔◌, ◌⊎◌, inl, inr, ℕ, suc, ◌+◌, ◌-◌, ◌<◌, ◌≤◌, List, [], ◌∷◌, ◌++◌, length, get_or, map, drop, Bool, true, false, ◌&&◌, ◌||◌, refl, sym, ap, ◌∙◌, subst, arith, le-leb, eqb-true}
use Rattle.std.specs.Prelude.{◌==◌, nat_le, nat_eq, Option, Some, None, is_some, cond, slice_get}
use Rattle.std.proofs.lemmas.Bool.Decides.{nat_tests}
use Rattle.std.proofs.lemmas.List.{length-map, map_push, get_or_default}
use Rattle.std.specs.List.{filter}
use Rattle.std.proofs.lemmas.Bool.{and_right}
use Rattle.std.proofs.Math.Bool.{and-false}
use Rattle.cp_lists.specs.Lists.{IsIn, here, there, item_at}
use Rattle.cp_lists.proofs.Members.{into_filter, next_or_rest, none_left}
use Rattle.cp_lists.proofs.Items.{item_below, item_there, item_of_push, map_of_item, slice_get_item}
use Rattle.cp_model.specs.declared.node.Node.{Node}
use Rattle.cp_model.specs.declared.node.OrderPair.{OrderPair}
use Rattle.cp_model.specs.Order.{ReachesAlong, on_strand}
use Rattle.cp_model.specs.OrderTests.{at_or_after, any_pair}
use Rattle.cp_order.specs.PredecessorNodes.{Tops}
use Rattle.cp_order.specs.Closed.{IsTransitive}
use Rattle.cp_order.specs.Composed.{is_between, leads_along_one}
use Rattle.cp_order.specs.Rows.{AreTopsAlongOne, AreRows, AreRowsOn, AreRowsOf, AreRowsSoFar, shown, is_in_last, is_in_row, is_in_rows, ends_at, ends_on}
use Rattle.cp_model.proofs.BoundedSearch.{after_true, none_in}
use Rattle.cp_order.proofs.AlongPairs.{closed_search}

-- ---- pairs that reach alike

some_alike : (f g : OrderPair → Bool) (ps : List OrderPair) → ((p : OrderPair) → IsIn p ps → f p ≡ g p) → any_pair f ps ≡ any_pair g ps
some_alike f g [] h = refl
some_alike f g (p ∷ ps) h = ap (λ b. b || any_pair f ps) (h p here) ∙ ap (λ b. g p || b) (some_alike f g ps (λ q m. h q (there m)))

none_passes : (f : OrderPair → Bool) (ps : List OrderPair) → ((p : OrderPair) → IsIn p ps → f p ≡ false) → any_pair f ps ≡ false
none_passes f [] h = refl
none_passes f (p ∷ ps) h = ap (λ b. b || any_pair f ps) (h p here) ∙ none_passes f ps (λ q m. h q (there m))

no_later : (t s j i : ℕ) → (t ≡ s → ⊥) → ((t == s) && nat_le j i) ≡ false
no_later t s j i h = by_test (t == s) refl
  where
    by_test : (b : Bool) → (t == s) ≡ b → (b && nat_le j i) ≡ false
    by_test true e = absurd (h (grind (arith, nat_tests)))
    by_test false e = refl

as_far : (t s k i j : ℕ) → (t ≡ s → k ≤ i) → i ≤ j → ((t == s) && nat_le k i) ≡ ((t == s) && nat_le k j)
as_far t s k i j h l = by_test (t == s) refl
  where
    by_test : (b : Bool) → (t == s) ≡ b → (b && nat_le k i) ≡ (b && nat_le k j)
    by_test false e = refl
    by_test true e =
        let same : t ≡ s = grind (arith, nat_tests) in
        let a : k ≤ i = h same in
        le-leb k i a ∙ sym (le-leb k j (omega (arith, a, l)))

not_at : (t s k i j : ℕ) → j ≡ suc i → ((t == s) && (k == j)) ≡ false → ((t == s) && nat_le k i) ≡ ((t == s) && nat_le k j)
not_at t s k i j e h = by_test (t == s) refl
  where
    by_test : (b : Bool) → (t == s) ≡ b → (b && nat_le k i) ≡ (b && nat_le k j)
    by_test false f = refl
    by_test true f = grind (arith, nat_tests)

-- ---- what is found in rows

module _ (pairs : List OrderPair) (s : ℕ) where
  abbrev at : ℕ → Node
  at i = record { strand = s; index = i }

  between_alike : (i j : ℕ) → ((p : OrderPair) → IsIn p pairs → at_or_after p.later (at i) ≡ at_or_after p.later (at j)) → (x : Node) → any_pair (is_between x (at i)) pairs ≡ any_pair (is_between x (at j)) pairs
  between_alike i j h x = some_alike (is_between x (at i)) (is_between x (at j)) pairs (λ p m. ap (λ b. at_or_after x p.earlier && b) (h p m))

  none_between : (i : ℕ) → ((p : OrderPair) → IsIn p pairs → p.later.strand ≡ s → ⊥) → (x : Node) → any_pair (is_between x (at i)) pairs ≡ false
  none_between i h x = none_passes (is_between x (at i)) pairs (λ p m. and_right (at_or_after x p.earlier) (at_or_after p.later (at i)) (no_later p.later.strand s p.later.index i (h p m)))

  module _ (rows : List Tops) (r : AreRowsOn pairs s rows) (x : Node) where
    found_last : (i : ℕ) → length rows ≤ i → (last : Option Tops) → item_at rows (length rows - 1) ≡ last → is_in_last last x ≡ any_pair (is_between x (at i)) pairs
    found_last i l None e = sym (none_between i (λ p m same. no_rows (r.all p m same)) x)
      where
        no_rows : {n : ℕ} → n < length rows → ⊥
        no_rows h =
            let there_is = item_there rows (length rows - 1) (omega (arith, h)) in
            let f : Some there_is.0 ≡ None = sym there_is.1 ∙ e in
            cc
    found_last i l (Some tops) e =
        r.each (length rows - 1) tops e x ∙ between_alike (length rows - 1) i (λ p m. as_far p.later.strand s p.later.index (length rows - 1) i (λ same. omega (arith, r.all p m same)) (omega (arith, l))) x

    found_row : (i : ℕ) (row : Option Tops) → item_at rows i ≡ row → is_in_row row (item_at rows (length rows - 1)) x ≡ any_pair (is_between x (at i)) pairs
    found_row i (Some tops) e = r.each i tops e x
    found_row i None e = found_last i (past i e) (item_at rows (length rows - 1)) refl
      where
        past : (i : ℕ) → item_at rows i ≡ None → length rows ≤ i
        past i e = not_below (λ l. let there_is = item_there rows i l in let f : Some there_is.0 ≡ None = sym there_is.1 ∙ e in cc)
          where
            not_below : (i < length rows → ⊥) → length rows ≤ i
            not_below h = omega (arith, h)

    found : (i : ℕ) → is_in_rows rows i x ≡ any_pair (is_between x (at i)) pairs
    found i = found_row i (item_at rows i) refl

module _ (pairs self : List OrderPair) (rows : ℕ → List Tops) (x y : Node) (is : pairs ≡ self) (closed : IsTransitive pairs) (r : AreRowsOf pairs rows) where
  abbrev Answers : Bool → Type 0
  Answers b = (b ≡ true) ↔ ReachesAlong self x y

  asked : (b : Bool) → b ≡ (at_or_after x y || is_in_rows (rows y.strand) y.index x) → Answers b
  asked b e =
      let same : b ≡ leads_along_one pairs x y = e ∙ ap (λ c. at_or_after x y || c) (found pairs y.strand (rows y.strand) (r y.strand) x y.index) in
      let h = closed_search pairs x y closed in
      subst (λ (ps : List OrderPair). (b ≡ true) ↔ ReachesAlong ps x y) is (λ t. h.0 (sym same ∙ t), λ l. same ∙ h.1 l)

  pub asked_in_rows : (found_rows : List Tops) (b : Bool) → at_or_after x y ≡ false → rows y.strand ≡ found_rows → b ≡ is_in_rows found_rows y.index x → Answers b
  asked_in_rows found_rows b h same e =
      asked b (e ∙ sym (ap (λ rs. is_in_rows rs y.index x) same) ∙ sym (ap (λ c. c || is_in_rows (rows y.strand) y.index x) h))

pub asked_on_strand : (self : List OrderPair) (x y : Node) → at_or_after x y ≡ true → (true ≡ true) ↔ ReachesAlong self x y
asked_on_strand self x y h = (λ _. on_strand (after_true x y h), λ _. refl)

-- ---- rows as they are made

module _ (pairs : List OrderPair) (s : ℕ) where
  -- where no pair ends at the next node, what reaches it is what reaches the one before it
  shared_row : (rows : List Tops) (tops : Tops) → AreRows pairs s rows → item_at rows (length rows - 1) ≡ Some tops → any_pair (ends_at (at pairs s (length rows))) pairs ≡ false → AreTopsAlongOne pairs (at pairs s (length rows)) tops
  shared_row rows tops r e none x =
      let n = length rows in
      let some_before : n - 1 < n = item_below rows (n - 1) tops e in
      r (n - 1) tops e x
      ∙ between_alike pairs s (n - 1) n (λ p m. not_at p.later.strand s p.later.index (n - 1) n (omega (arith, some_before)) (none_in (ends_at (at pairs s n)) pairs p none m)) x

  pub no_rows_yet : (rows : List Tops) → rows ≡ [] → AreRows pairs s rows
  no_rows_yet rows e i tops h = let f : Some tops ≡ None = sym h ∙ ap (λ rs. item_at rs i) e in cc

  row_pushed : (rows : List Tops) (tops : Tops) → AreRows pairs s rows → AreTopsAlongOne pairs (at pairs s (length rows)) tops → AreRows pairs s (rows ++ (tops ∷ []))
  row_pushed rows tops r new i t h = by_place (item_of_push rows tops i t h)
    where
      by_place : (item_at rows i ≡ Some t) ⊎ ((i ≡ length rows) × (tops ≡ t)) → AreTopsAlongOne pairs (at pairs s i) t
      by_place (inl e) = r i t e
      by_place (inr e) = subst (λ (n : ℕ). AreTopsAlongOne pairs (at pairs s n) t) (sym e.0) (subst (AreTopsAlongOne pairs (at pairs s (length rows))) e.1 new)

  module _ {A : Type 0} (show : A → Tops) (rs : List A) (rows : AreRows pairs s (map show rs)) where
    pub row_shared : (row : A) (tops : Tops) → Some row ≡ slice_get rs (length rs - 1) → any_pair (ends_at (at pairs s (length rs))) pairs ≡ false → tops ≡ show row → AreTopsAlongOne pairs (at pairs s (length rs)) tops
    row_shared row tops e none same =
        let n : length (map show rs) ≡ length rs = length-map rs show in
        let last : item_at (map show rs) (length rs - 1) ≡ Some (show row) = map_of_item show rs (length rs - 1) row (sym (slice_get_item rs (length rs - 1)) ∙ sym e) in
        subst (AreTopsAlongOne pairs (at pairs s (length rs))) (sym same)
        (subst (λ (k : ℕ). AreTopsAlongOne pairs (at pairs s k) (show row)) n
        (shared_row (map show rs) (show row) rows (ap (λ k. item_at (map show rs) (k - 1)) n ∙ last) (ap (λ k. any_pair (ends_at (at pairs s k)) pairs) n ∙ none)))

    pub rows_pushed : (seen new : List A) (row : A) → seen ≡ rs → new ≡ rs ++ (row ∷ []) → AreTopsAlongOne pairs (at pairs s (length seen)) (show row) → AreRows pairs s (map show new)
    rows_pushed seen new row same e h =
        let n : length seen ≡ length (map show rs) = ap length same ∙ sym (length-map rs show) in
        subst (AreRows pairs s) (sym (ap (map show) e ∙ map_push show rs row))
        (row_pushed (map show rs) (show row) rows (subst (λ (k : ℕ). AreTopsAlongOne pairs (at pairs s k) (show row)) n h))

-- ---- the pairs that end on a strand

first_kept : (f test : OrderPair → Bool) (p : OrderPair) (kept ps : List OrderPair) (b : Bool) → test p ≡ b → (test p ≡ false → f p ≡ false) → any_pair f kept ≡ any_pair f ps
    → any_pair f (if test p then p ∷ kept else kept) ≡ (f p || any_pair f ps)
first_kept f test p kept ps true e h rest = ap (λ b. any_pair f (if b then p ∷ kept else kept)) e ∙ ap (λ b. f p || b) rest
first_kept f test p kept ps false e h rest = ap (λ b. any_pair f (if b then p ∷ kept else kept)) e ∙ rest ∙ sym (ap (λ b. b || any_pair f ps) (h e))

some_kept : (f test : OrderPair → Bool) (ps : List OrderPair) → ((p : OrderPair) → test p ≡ false → f p ≡ false) → any_pair f (filter test ps) ≡ any_pair f ps
some_kept f test [] h = refl
some_kept f test (p ∷ ps) h = first_kept f test p (filter test ps) ps (test p) refl (h p) (some_kept f test ps h)

module _ (pairs : List OrderPair) (s : ℕ) where
  elsewhere : (x : Node) (i : ℕ) (p : OrderPair) → ends_on s p ≡ false → is_between x (at pairs s i) p ≡ false
  elsewhere x i p e = ap (λ b. at_or_after x p.earlier && (b && nat_le p.later.index i)) e ∙ and-false (at_or_after x p.earlier)

  ends_there : (p : OrderPair) → p.later.strand ≡ s → ends_on s p ≡ true
  ends_there p e = grind (arith, nat_tests)

  kept_rows : (rows : List Tops) → AreRowsOn (filter (ends_on s) pairs) s rows → AreRowsOn pairs s rows
  kept_rows rows r = record {
    each = λ i tops e x. r.each i tops e x ∙ some_kept (is_between x (at pairs s i)) (ends_on s) pairs (elsewhere x i);
    all = λ p m e. r.all p (into_filter (ends_on s) pairs m (ends_there p e)) e;
  }

  pub rows_of_ends : (ends : List OrderPair) (rows : List Tops) → ends ≡ filter (ends_on s) pairs → AreRowsOn ends s rows → AreRowsOn pairs s rows
  rows_of_ends ends rows same r = kept_rows rows (subst (λ (ps : List OrderPair). AreRowsOn ps s rows) same r)

-- ---- the last end on a strand

module _ (pairs : List OrderPair) (s i : ℕ) (d : OrderPair) (more : i < length pairs) (last : ℕ) where
  abbrev EndsBy : ℕ → List OrderPair → Type 0
  EndsBy n left = (p : OrderPair) → IsIn p pairs → p.later.strand ≡ s → (p.later.index ≤ n) ⊎ IsIn p left

  pub end_next : (n : ℕ) → last ≤ n → ((get_or pairs i d).later.strand ≡ s → (get_or pairs i d).later.index ≤ n) → EndsBy last (drop i pairs) → EndsBy n (drop (i + 1) pairs)
  end_next n le h f p m e = by_either (f p m e)
    where
      by_next : (get_or pairs i d ≡ p) ⊎ IsIn p (drop (i + 1) pairs) → (p.later.index ≤ n) ⊎ IsIn p (drop (i + 1) pairs)
      by_next (inl same) = inl (subst (λ (q : OrderPair). q.later.index ≤ n) same (h (ap (λ (q : OrderPair). q.later.strand) same ∙ e)))
      by_next (inr j) = inr j

      by_either : (p.later.index ≤ last) ⊎ IsIn p (drop i pairs) → (p.later.index ≤ n) ⊎ IsIn p (drop (i + 1) pairs)
      by_either (inl l) = inl (omega (arith, l, le))
      by_either (inr j) = by_next (next_or_rest pairs i p (get_or pairs i d) more (get_or_default pairs i d (get_or pairs i d) more) j)

pub end_all : (pairs : List OrderPair) (s i last : ℕ) → length pairs ≤ i → ((p : OrderPair) → IsIn p pairs → p.later.strand ≡ s → (p.later.index ≤ last) ⊎ IsIn p (drop i pairs))
    → (p : OrderPair) → IsIn p pairs → p.later.strand ≡ s → p.later.index ≤ last
end_all pairs s i last le f p m e = by_either (f p m e)
  where
    by_either : (p.later.index ≤ last) ⊎ IsIn p (drop i pairs) → p.later.index ≤ last
    by_either (inl l) = l
    by_either (inr j) = absurd (none_left pairs i p le j)

-- ---- the rows of all strands

module _ {V : Type 0} (pairs : List OrderPair) (show : V → List Tops) where
  abbrev SoFar : List OrderPair → (ℕ → Option V) → Type 0
  SoFar left rows = AreRowsSoFar pairs left rows show

  module _ (i : ℕ) (d : OrderPair) (more : i < length pairs) where
    abbrev next : OrderPair
    next = get_or pairs i d

    pub rows_next : (old new : ℕ → Option V) → ((s : ℕ) (v : V) → new s ≡ Some v → AreRowsOn pairs s (show v)) → ((s : ℕ) → is_some (old s) ≡ true → is_some (new s) ≡ true) → is_some (new next.later.strand) ≡ true
        → SoFar (drop i pairs) old → SoFar (drop (i + 1) pairs) new
    rows_next old new each stay here_now h = record { each = each; all = λ p m. by_either p (h.all p m) }
      where
        by_next : (p : OrderPair) → (next ≡ p) ⊎ IsIn p (drop (i + 1) pairs) → (is_some (new p.later.strand) ≡ true) ⊎ IsIn p (drop (i + 1) pairs)
        by_next p (inl same) = inl (subst (λ (q : OrderPair). is_some (new q.later.strand) ≡ true) same here_now)
        by_next p (inr j) = inr j

        by_either : (p : OrderPair) → (is_some (old p.later.strand) ≡ true) ⊎ IsIn p (drop i pairs) → (is_some (new p.later.strand) ≡ true) ⊎ IsIn p (drop (i + 1) pairs)
        by_either p (inl e) = inl (stay p.later.strand e)
        by_either p (inr j) = by_next p (next_or_rest pairs i p next more (get_or_default pairs i d next more) j)

    pub rows_kept : (rows : ℕ → Option V) → is_some (rows next.later.strand) ≡ true → SoFar (drop i pairs) rows → SoFar (drop (i + 1) pairs) rows
    rows_kept rows e h = rows_next rows rows h.each (λ s f. f) e h

    pub rows_put : (old new : ℕ → Option V) (v : V) → ((s : ℕ) → new s ≡ cond (nat_eq next.later.strand s) (Some v) (old s)) → AreRowsOn pairs next.later.strand (show v) → SoFar (drop i pairs) old → SoFar (drop (i + 1) pairs) new
    rows_put old new v updates on h =
        rows_next old new (λ s w e. each_by s w (nat_eq next.later.strand s) refl (sym (updates s) ∙ e)) (λ s e. ap is_some (updates s) ∙ still (nat_eq next.later.strand s) (old s) e)
        (ap is_some (updates next.later.strand) ∙ ap (λ b. is_some (cond b (Some v) (old next.later.strand))) (same_strand next.later.strand)) h
      where
        still : (b : Bool) (o : Option V) → is_some o ≡ true → is_some (cond b (Some v) o) ≡ true
        still true o e = refl
        still false o e = e

        same_strand : (n : ℕ) → nat_eq n n ≡ true
        same_strand n = grind (arith, nat_tests)

        each_by : (s : ℕ) (w : V) (b : Bool) → nat_eq next.later.strand s ≡ b → cond b (Some v) (old s) ≡ Some w → AreRowsOn pairs s (show w)
        each_by s w true e f = let same : v ≡ w = cc in subst (λ (n : ℕ). AreRowsOn pairs n (show w)) (eqb-true next.later.strand s e) (subst (λ (u : V). AreRowsOn pairs next.later.strand (show u)) same on)
        each_by s w false e f = h.each s w f

  pub rows_all : (rows : ℕ → Option V) (i : ℕ) → length pairs ≤ i → SoFar (drop i pairs) rows → (s : ℕ) → AreRowsOn pairs s (shown (rows s) show)
  rows_all rows i le h s = by_value (rows s) refl
    where
      some_at : (p : OrderPair) → (is_some (rows p.later.strand) ≡ true) ⊎ IsIn p (drop i pairs) → is_some (rows p.later.strand) ≡ true
      some_at p (inl e) = e
      some_at p (inr j) = absurd (none_left pairs i p le j)

      no_pair : rows s ≡ None → (p : OrderPair) → IsIn p pairs → p.later.strand ≡ s → ⊥
      no_pair e p m same =
          let there_is : is_some (rows s) ≡ true = subst (λ (n : ℕ). is_some (rows n) ≡ true) same (some_at p (h.all p m)) in
          let f : false ≡ true = sym (ap is_some e) ∙ there_is in
          cc

      by_value : (o : Option V) → rows s ≡ o → AreRowsOn pairs s (shown o show)
      by_value (Some v) e = h.each s v e
      by_value None e = record { each = no_rows_yet pairs s [] refl; all = λ p m same. absurd (no_pair e p m same) }
