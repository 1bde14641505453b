-- The shares of places whose values' weights are known, of one strand's after another's.
use Rattle.std.proofs.Common.{◌≡◌, ℕ, zero, suc, ◌+◌, ◌-◌, ◌*◌, ◌<◌, ◌≤◌, Bool, if◌then◌else◌, List, [], ◌∷◌, ◌++◌, length, map, take, drop, get_or, refl, sym, ap, ap₂, ◌∙◌, subst, arith}
use Rattle.std.specs.Prelude.{⊤}
use Rattle.std.proofs.lemmas.List.{length-append}
use Rattle.cp_model.specs.Term.{Term}
use Rattle.cp_model.specs.Skeleton.{Skeleton}
use Rattle.cp_model.specs.Strand.{variables_of_trace}
use Rattle.cp_model.specs.declared.strand.Event.{Event}
use Rattle.cp_model.proofs.SameTests.{term_is}
use Rattle.cp_fingerprint.specs.SharedValues.{kept, strung, turned, value_slots, slots_of, listened, named_from, heard_weight, value_weight, share_from, light_share, steep_share, steepened, added_from}
use Rattle.cp_fingerprint.specs.Slots.{Slot}
use Rattle.cp_fingerprint.specs.Values.{IsPlaceOf}
use Rattle.cp_fingerprint.specs.Weights.{sum_beside, AreNumbered, values_of, AreSumsOf, weight_beside, placed_from, lightened}
use Rattle.cp_fingerprint.specs.declared.shares.Place.{Place}
use Rattle.cp_fingerprint.specs.declared.sums.Sums.{Sums}
use Rattle.cp_fingerprint.specs.declared.sums.ValueSum.{ValueSum}
use Rattle.cp_fingerprint.proofs.Listened.{heard_within}
use Rattle.cp_fingerprint.proofs.SharedMore.{weight_with, named_within}

module _ (es : List (Event Term)) (all : List Slot) where
  -- These are the weight of each place and the number of its value, of which the weight stands at that number.
  abbrev pub AreWeighed : List ℕ → List Slot → List Place → Type 0
  AreWeighed ws [] [] = ⊤
  AreWeighed ws [] (p ∷ ps) = ⊥
  AreWeighed ws (x ∷ xs) [] = ⊥
  AreWeighed ws (x ∷ xs) (p ∷ ps) = ((p.weight ≡ x.weight) × (get_or ws p.number 0 ≡ value_weight es all x.value)) × AreWeighed ws xs ps

  -- ---- the weight of a place's value

  beside_at : (t : Term) (sums : List ValueSum) (i : ℕ) → IsPlaceOf t (map (λ v. v.value) sums) i →
      get_or (map (weight_beside es all) sums) i 0 ≡ kept (named_from (heard_weight es t) t all + sum_beside t (map (λ v. v.value) sums) (map (λ v. v.sum) sums))
  beside_at t [] i h = absurd h
  beside_at t (v ∷ sums) zero h =
      let e : t ≡ v.value = term_is t v.value h in
      ap (λ (u : Term). kept (named_from (heard_weight es u) u all + v.sum)) (sym e)
      ∙ sym (ap (λ (c : Bool). kept (named_from (heard_weight es t) t all + (if c then v.sum else sum_beside t (map (λ v. v.value) sums) (map (λ v. v.sum) sums)))) h)
  beside_at t (v ∷ sums) (suc i) h =
      beside_at t sums i h.1
      ∙ sym (ap (λ (c : Bool). kept (named_from (heard_weight es t) t all + (if c then v.sum else sum_beside t (map (λ v. v.value) sums) (map (λ v. v.sum) sums)))) h.0)

  module _ (s : Sums) (sound : AreSumsOf all s) where
    weight_at : (t : Term) (i : ℕ) → IsPlaceOf t (values_of s) i → get_or (map (weight_beside es all) s.sums.items) i 0 ≡ value_weight es all t
    weight_at t i h =
        let first = named_from (heard_weight es t) t all in
        beside_at t s.sums.items i h
        ∙ (ap (λ (n : ℕ). kept (first + n)) (sound.1 t) ∙ weight_with first t all (named_within (heard_weight es t) t all (heard_within (variables_of_trace es) t)))

    numbered_weighed : (xs : List Slot) (ps : List Place) → AreNumbered xs ps (values_of s) → AreWeighed (map (weight_beside es all) s.sums.items) xs ps
    numbered_weighed [] [] h = tt
    numbered_weighed [] (p ∷ ps) h = absurd h
    numbered_weighed (x ∷ xs) [] h = absurd h
    numbered_weighed (x ∷ xs) (p ∷ ps) h = ((h.0.0, weight_at x.value p.number h.0.1), numbered_weighed xs ps h.1)

    pub all_weighed : (ws : List ℕ) → ws ≡ map (weight_beside es all) s.sums.items → AreWeighed ws all s.places.items
    all_weighed ws are = subst (λ (ns : List ℕ). AreWeighed ns all s.places.items) (sym are) (numbered_weighed all s.places.items sound.2)

  -- ---- the share of places

  module _ (ws : List ℕ) where
    pub as_many_places : (xs : List Slot) (ps : List Place) → AreWeighed ws xs ps → length ps ≡ length xs
    as_many_places [] [] h = refl
    as_many_places [] (p ∷ ps) h = absurd h
    as_many_places (x ∷ xs) [] h = absurd h
    as_many_places (x ∷ xs) (p ∷ ps) h = ap suc (as_many_places xs ps h.1)

    share_is : (n : ℕ) (xs : List Slot) (ps : List Place) → AreWeighed ws xs ps → placed_from ws n ps ≡ share_from n es all xs
    share_is n [] [] h = refl
    share_is n [] (p ∷ ps) h = absurd h
    share_is n (x ∷ xs) [] h = absurd h
    share_is n (x ∷ xs) (p ∷ ps) h =
        ap₂ (λ (w v : ℕ). placed_from ws (kept (n + kept (w * v))) ps) h.0.0 h.0.1 ∙ share_is (kept (n + kept (x.weight * value_weight es all x.value))) xs ps h.1

    turned_weighed : (xs : List Slot) (ps : List Place) → AreWeighed ws xs ps → AreWeighed ws (map turned xs) (map lightened ps)
    turned_weighed [] [] h = tt
    turned_weighed [] (p ∷ ps) h = absurd h
    turned_weighed (x ∷ xs) [] h = absurd h
    turned_weighed (x ∷ xs) (p ∷ ps) h = ((ap (λ (n : ℕ). 4093 - n) h.0.0, h.0.1), turned_weighed xs ps h.1)

    front_weighed : (xs ys : List Slot) (ps : List Place) → AreWeighed ws (xs ++ ys) ps → AreWeighed ws xs (take (length xs) ps)
    front_weighed [] ys ps h = tt
    front_weighed (x ∷ xs) ys [] h = absurd h
    front_weighed (x ∷ xs) ys (p ∷ ps) h = (h.0, front_weighed xs ys ps h.1)

    back_weighed : (xs ys : List Slot) (ps : List Place) → AreWeighed ws (xs ++ ys) ps → AreWeighed ws ys (drop (length xs) ps)
    back_weighed [] ys ps h = h
    back_weighed (x ∷ xs) ys [] h = absurd h
    back_weighed (x ∷ xs) ys (p ∷ ps) h = back_weighed xs ys ps h.1

    -- The first n of the places, and those behind them.
    module _ (xs ys : List Slot) (ps : List Place) (n : ℕ) (are : AreWeighed ws (xs ++ ys) ps) (long : n ≡ length xs) where
      pub places_fit : n ≤ length ps
      places_fit =
          let count = as_many_places (xs ++ ys) ps are in
          let both : length (xs ++ ys) ≡ length xs + length ys = length-append xs ys in
          omega (arith, count, both, long)

      own_weighed : (own : List Place) → own ≡ take n ps → AreWeighed ws xs own
      own_weighed own front = subst (AreWeighed ws xs) (sym (front ∙ ap (λ (k : ℕ). take k ps) long)) (front_weighed xs ys ps are)

      pub own_share : (own : List Place) (share : ℕ) → own ≡ take n ps → share ≡ placed_from ws 0 own → share ≡ share_from 0 es all xs
      own_share own share front is = is ∙ share_is 0 xs own (own_weighed own front)

      pub own_light : (own : List Place) (share : ℕ) → own ≡ take n ps → share ≡ placed_from ws 0 (map lightened own) → share ≡ light_share es all xs
      own_light own share front is = is ∙ share_is 0 (map turned xs) (map lightened own) (turned_weighed xs own (own_weighed own front))

      pub rest_weighed : (later : List Place) → later ≡ drop n ps → AreWeighed ws ys later
      rest_weighed later back = subst (AreWeighed ws ys) (sym (back ∙ ap (λ (k : ℕ). drop k ps) long)) (back_weighed xs ys ps are)

-- ---- lists of places, by how many there are in each

-- The list number i, of so many places, and those behind it.
pub record IsNext (lists : List (List Slot)) (i n : ℕ) : Type 0 where
  pub own : List Slot
  pub opened : drop i lists ≡ own ∷ drop (i + 1) lists
  pub long : n ≡ length own

next_list : (lists : List (List Slot)) (i : ℕ) → i < length (map length lists) → IsNext lists i (get_or (map length lists) i 0)
next_list [] i l = absurd (omega (arith, l))
next_list (xs ∷ lists) zero l = record { own = xs; opened = refl; long = refl }
next_list (xs ∷ lists) (suc i) l =
    let h = next_list lists i (omega (arith, l)) in
    let e : suc (i + 1) ≡ suc i + 1 = omega arith in
    record { own = h.own; opened = h.opened ∙ ap (λ (n : ℕ). h.own ∷ drop n (xs ∷ lists)) e; long = h.long }

pub next_counted : (lists : List (List Slot)) (counts : List ℕ) (i : ℕ) → counts ≡ map length lists → i < length counts → IsNext lists i (get_or counts i 0)
next_counted lists counts i are l = subst (λ (ns : List ℕ). IsNext lists i (get_or ns i 0)) (sym are) (next_list lists i (subst (λ (ns : List ℕ). i < length ns) are l))

-- The number of one list more is added.
number_added : (f : List Slot → ℕ) (lists later : List (List Slot)) (own : List Slot) → lists ≡ own ∷ later → (n one more target : ℕ) → one ≡ f own → more ≡ kept (n + one) →
    added_from f n lists ≡ target → added_from f more later ≡ target
number_added f lists later own opened n one more target is sum so_far =
    ap (λ (k : ℕ). added_from f k later) (sum ∙ ap (λ (k : ℕ). kept (n + k)) is) ∙ (sym (ap (added_from f n) opened) ∙ so_far)

module _ (es : List (Event Term)) (all : List Slot) (ws : List ℕ) where
  -- With the places of these lists still to come, the two numbers become these.
  abbrev pub StillToAdd : List (List Slot) → ℕ → ℕ → List Place → ℕ → ℕ → Type 0
  StillToAdd lists key light ps whole_key whole_light =
      AreWeighed es all ws (strung lists) ps × (added_from (steep_share es all) key lists ≡ whole_key) × (added_from (light_share es all) light lists ≡ whole_light)

  pub shares_begin : (given : List Slot) (lists : List (List Slot)) (ps own later : List Place) (n key : ℕ) → AreWeighed es all ws (given ++ strung lists) ps → n ≡ length given → own ≡ take n ps →
      later ≡ drop n ps → key ≡ placed_from ws 0 own → StillToAdd lists key 0 later (added_from (steep_share es all) (share_from 0 es all given) lists) (added_from (light_share es all) 0 lists)
  shares_begin given lists ps own later n key are long front back is = (
    rest_weighed es all ws given (strung lists) ps n are long later back,
    ap (λ (k : ℕ). added_from (steep_share es all) k lists) (own_share es all ws given (strung lists) ps n are long own key front is),
    refl,
  )

  -- The next list has these places, and those of the lists behind it come later.
  module _ (lists : List (List Slot)) (i n : ℕ) (next : IsNext lists i n) (ps : List Place) (are : AreWeighed es all ws (strung (drop i lists)) ps) where
    next_weighed : AreWeighed es all ws (next.own ++ strung (drop (i + 1) lists)) ps
    next_weighed = subst (λ (xss : List (List Slot)). AreWeighed es all ws (strung xss) ps) next.opened are

    pub next_fits : n ≤ length ps
    next_fits = places_fit es all ws next.own (strung (drop (i + 1) lists)) ps n next_weighed next.long

    pub shares_added : (own later : List Place) (heavy light square key light_share_before more_key more_light whole_key whole_light : ℕ) → own ≡ take n ps → later ≡ drop n ps →
        heavy ≡ placed_from ws 0 own → light ≡ placed_from ws 0 (map lightened own) → square ≡ steepened heavy → more_key ≡ kept (key + square) → more_light ≡ kept (light_share_before + light) →
        added_from (steep_share es all) key (drop i lists) ≡ whole_key → added_from (light_share es all) light_share_before (drop i lists) ≡ whole_light →
        StillToAdd (drop (i + 1) lists) more_key more_light later whole_key whole_light
    shares_added own later heavy light square key light_share_before more_key more_light whole_key whole_light front back heavy_is light_is square_is key_is light_sum keys lights =
        let behind = strung (drop (i + 1) lists) in (
          rest_weighed es all ws next.own behind ps n next_weighed next.long later back,
          number_added (steep_share es all) (drop i lists) (drop (i + 1) lists) next.own next.opened key square more_key whole_key
              (square_is ∙ ap steepened (own_share es all ws next.own behind ps n next_weighed next.long own heavy front heavy_is)) key_is keys,
          number_added (light_share es all) (drop i lists) (drop (i + 1) lists) next.own next.opened light_share_before light more_light whole_light
              (own_light es all ws next.own behind ps n next_weighed next.long own light front light_is) light_sum lights,
        )

-- The weights of the values of a skeleton's places, as the program makes them.
pub weighed_by : (k : Skeleton) (s : Sums) → AreSumsOf (slots_of k) s → (es : List (Event Term)) (sums : List ValueSum) (ps : List Place) (ws : List ℕ) → es ≡ listened k.strands → sums ≡ s.sums.items →
    ps ≡ s.places.items → ws ≡ map (weight_beside es (slots_of k)) sums → AreWeighed (listened k.strands) (slots_of k) ws (slots_of k) ps
weighed_by k s sound es sums ps ws heard sums_are places_are is =
    subst (AreWeighed (listened k.strands) (slots_of k) ws (slots_of k)) (sym places_are)
    (all_weighed (listened k.strands) (slots_of k) s sound ws (is ∙ ap₂ (λ es vs. map (weight_beside es (slots_of k)) vs) heard sums_are))

as_many_values : (i : ℕ) (ts : List Term) → length (value_slots i ts) ≡ length ts
as_many_values i [] = refl
as_many_values i (t ∷ ts) = ap suc (as_many_values (suc i) ts)

pub values_counted : (ts given : List Term) → given ≡ ts → length given ≡ length (value_slots 0 ts)
values_counted ts given are = ap length are ∙ sym (as_many_values 0 ts)
