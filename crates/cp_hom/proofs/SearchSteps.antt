-- The steps of the search: what takes the place of a partial map, and that the steps come to an end.
use Rattle.std.proofs.Common.{◌≡◌, ℕ, zero, suc, ◌+◌, ◌-◌, ◌*◌, ◌<◌, ◌≤◌, List, [], ◌∷◌, ◌++◌, length, take, drop, refl, sym, ap, ◌∙◌, subst, arith, ◌⊎◌, inl, inr, eq-or-lt_of_le}
use Rattle.std.specs.Prelude.{Option, Some, None, option_map, IfNone, IsTrue}
use Rattle.std.proofs.lemmas.List.{map-append}
use Rattle.std.proofs.Math.Nat.{suc-mul, mul-le-mul_right}
use Rattle.std.proofs.lemmas.Bool.{cases_lt}
use Rattle.cp_lists.specs.Lists.{item_at, IsIn, here, there}
use Rattle.cp_model.specs.Skeleton.{Skeleton}
use Rattle.cp_model.specs.Homomorphism.{SkeletonMap, IsEmbedding}
use Rattle.cp_skel.specs.Ordered.{IsOrdered}
use Rattle.cp_lists.proofs.Members.{in_append, in_append_left, in_append_right, in_rest}
use Rattle.cp_hom.specs.PartialMaps.{PartialMap, partial_view, ExtendsPartial, IsExtended, IsOfNoExtension, FindsAmong}
use Rattle.cp_hom.specs.Counterparts.{TakesItem, item_count, IsItemOf, AreItemsOf, KeepsOrderApart}
use Rattle.cp_hom.specs.Choices.{ArePassed, IsNextChoice}
use Rattle.cp_hom.specs.declared.known.Choice.{Choice}
use Rattle.cp_hom.specs.declared.search.Branch.{Branch}
use Rattle.cp_hom.specs.OpenMaps.{OpenMap, branch_view, branches_view, next_maps, from_choice, placed_map, steps_left, steps_of, all_steps, IsPlaced, IsStarted, IsWholeMap, IsOpenMap, AreOpen, TakesFrom, IsWithin, IsWithinSome, TakePlace}
use Rattle.cp_hom.proofs.Embedded.{embedding_apart, embedding_pairs, item_taken}
use Rattle.cp_hom.specs.declared.partials.Partial.{Partial}
use Rattle.cp_hom.specs.declared.items.Item.{Item}

-- ---- steps

some_left : (b : Skeleton) (items : List Item) (choice : ℕ) → 0 < steps_left b items choice
some_left b [] choice = omega arith
some_left b (i ∷ is) choice = omega arith

steps_append : (b : Skeleton) (items : List Item) (xs ys : List OpenMap) → all_steps b items (xs ++ ys) ≡ all_steps b items xs + all_steps b items ys
steps_append b items [] ys = omega arith
steps_append b items (x ∷ xs) ys = let e = steps_append b items xs ys in omega (arith, e)

-- The steps of a choice, of which there are some left, are those of the next choice, those of what is found, and one more.
choice_less : (n choice w : ℕ) → choice < n → (suc ((n - (choice + 1)) * suc w) + w) < suc ((n - choice) * suc w)
choice_less n choice w l =
    let d : ℕ = n - (choice + 1) in
    let e : n - choice ≡ suc d = omega (arith, l) in
    let m : (n - choice) * suc w ≡ d * suc w + suc w = ap (λ (k : ℕ). k * suc w) e ∙ suc-mul d (suc w) in
    omega (arith, m)

-- ---- items that are left

next_item : (items : List Item) (n : ℕ) (i : Item) → item_at items n ≡ Some i → drop n items ≡ i ∷ drop (n + 1) items
next_item [] n i e = absurd (cc)
next_item (x ∷ xs) zero i e = let s : x ≡ i = cc in ap (λ (y : Item). y ∷ xs) s
next_item (x ∷ xs) (suc n) i e = rw suc_plus (next_item xs n i e)
  where
    suc_plus : suc n + 1 ≡ suc (n + 1)
    suc_plus = omega arith

taken_item : (items : List Item) (n : ℕ) (i : Item) → item_at items n ≡ Some i → take (n + 1) items ≡ take n items ++ (i ∷ [])
taken_item [] n i e = absurd (cc)
taken_item (x ∷ xs) zero i e = let s : x ≡ i = cc in ap (λ (y : Item). y ∷ []) s
taken_item (x ∷ xs) (suc n) i e = rw suc_plus (ap (λ (ys : List Item). x ∷ ys) (taken_item xs n i e))
  where
    suc_plus : suc n + 1 ≡ suc (n + 1)
    suc_plus = omega arith

within_length : (items : List Item) (n : ℕ) (i : Item) → item_at items n ≡ Some i → n + 1 ≤ length items
within_length [] n i e = absurd (cc)
within_length (x ∷ xs) zero i e = omega arith
within_length (x ∷ xs) (suc n) i e = let h : n + 1 ≤ length xs = within_length xs n i e in omega (arith, h)

-- An embedding takes whatever item is next.
takes_next : (a b : Skeleton) (f : SkeletonMap) → IsEmbedding a b f → (items : List Item) → ((i : Item) → IsIn i items → IsItemOf a i) → TakesFrom a b items 0 f
takes_next a b f h [] among = tt
takes_next a b f h (i ∷ is) among = let t = item_taken a b f h i (among i here) in (t.0, omega arith, t.1, t.2)

-- ---- what is taken from behind

-- A map that can be found from a list can be found from its front, or from its last.
front_or_last : (a b : Skeleton) (items : List Item) (f : SkeletonMap) (o : OpenMap) (old : List OpenMap) → IsWithinSome a b items f (old ++ (o ∷ [])) →
    IsWithinSome a b items f old ⊎ IsWithin a b items f o
front_or_last a b items f o old h = elim (in_append old (o ∷ []) h.listed) as (λ _. IsWithinSome a b items f old ⊎ IsWithin a b items f o) [
  | inl p ↦ inl (record { place = h.place; listed = p; within = h.within })
  | inr p ↦ inr (last h.place p h.within)
]
  where
    last : (q : OpenMap) → IsIn q (o ∷ []) → IsWithin a b items f q → IsWithin a b items f o
    last q here w = w
    last q (there p) w = elim p [ ]

in_longer : (a b : Skeleton) (items : List Item) (f : SkeletonMap) (old more : List OpenMap) → IsWithinSome a b items f old → IsWithinSome a b items f (old ++ more)
in_longer a b items f old more h = record { place = h.place; listed = in_append_left more h.listed; within = h.within }

in_more : (a b : Skeleton) (items : List Item) (f : SkeletonMap) (old more : List OpenMap) (o : OpenMap) → IsIn o more → IsWithin a b items f o → IsWithinSome a b items f (old ++ more)
in_more a b items f old more o p w = record { place = o; listed = in_append_right old p; within = w }

-- A partial map from which nothing can be found is left out.
pub nothing_found : (a b : Skeleton) (items : List Item) (o : OpenMap) (old : List OpenMap) → AreOpen a b items old →
    ((f : SkeletonMap) → IsEmbedding a b f → IsWithin a b items f o → ⊥) → TakePlace a b items o old old
nothing_found a b items o old are never = record {
  are_open = are;
  none_lost = λ f h w. elim (front_or_last a b items f o old w) as (λ _. IsWithinSome a b items f old) [
    | inl p ↦ p
    | inr p ↦ absurd (never f h p)
  ];
  fewer_steps =
      let e = steps_append b items old (o ∷ []) in
      let l = some_left b (drop o.done items) o.choice in
      omega (arith, e, l);
}

-- No choice is left.
pub no_choice : (a b : Skeleton) (items : List Item) (o : OpenMap) (i : Item) → item_at items o.done ≡ Some i → item_count i.kind b ≤ o.choice →
    (f : SkeletonMap) → IsEmbedding a b f → IsWithin a b items f o → ⊥
no_choice a b items o i at l f h w =
    let t = subst (λ (is : List Item). TakesFrom a b is o.choice f) (next_item items o.done i at) w.1 in
    let x : o.choice ≤ t.0 = t.1 in
    let y : t.0 < item_count i.kind b = t.2 in
    omega (arith, x, y, l)

-- All items are placed.
nothing_left : (items : List Item) (n : ℕ) → None ≡ item_at items n → take n items ≡ items
nothing_left [] zero e = refl
nothing_left [] (suc n) e = refl
nothing_left (x ∷ xs) zero e = absurd (let f : None ≡ Some x = e in cc)
nothing_left (x ∷ xs) (suc n) e = ap (λ (ys : List Item). x ∷ ys) (nothing_left xs n e)

pub whole_at_end : (a b : Skeleton) (items : List Item) (o : OpenMap) → AreItemsOf a items → IsOpenMap a b items o → None ≡ item_at items o.done → IsWholeMap a b o.given
whole_at_end a b items o are h done = record {
  consistent = h.consistent;
  problem = h.problem;
  placed = λ item l. h.placed item (subst (IsIn item) (sym (nothing_left items o.done done)) (are.listed item l));
}

-- ---- one step

-- The next choice.
abbrev pub tried : OpenMap → OpenMap
tried o = record { done = o.done; choice = o.choice + 1; given = o.given }

tried_open : (a b : Skeleton) (items : List Item) (o : OpenMap) → IsOpenMap a b items o → IsOpenMap a b items (tried o)
tried_open a b items o h = record { consistent = h.consistent; problem = h.problem; placed = h.placed; within = h.within }

-- What was found by this choice.
abbrev pub found_next : OpenMap → PartialMap → OpenMap
found_next o q = record { done = o.done + 1; choice = 0; given = q }

placed_or_now : (a b : Skeleton) (items : List Item) (o : OpenMap) (i : Item) (q : PartialMap) → IsOpenMap a b items o → IsExtended (TakesItem a b i o.choice) o.given q → (item : Item) →
    IsIn item (take o.done items) ⊎ IsIn item (i ∷ []) → IsPlaced a b q item
placed_or_now a b items o i q h k item (inl p) = let r = h.placed item p in (r.0, λ f follows. r.1 f (k.extends f follows))
placed_or_now a b items o i q h k item (inr here) = (o.choice, k.sound)
placed_or_now a b items o i q h k item (inr (there p)) = elim p [ ]

found_open : (a b : Skeleton) (items : List Item) (o : OpenMap) (i : Item) (q : PartialMap) → item_at items o.done ≡ Some i → IsOpenMap a b items o → IsExtended (TakesItem a b i o.choice) o.given q →
    IsOpenMap a b items (found_next o q)
found_open a b items o i q at h k = record {
  consistent = k.consistent h.consistent;
  problem = λ f follows. h.problem f (k.extends f follows);
  placed = λ item p. placed_or_now a b items o i q h k item
      (in_append (take o.done items) (i ∷ []) (subst (IsIn item) (taken_item items o.done i at) p));
  within = within_length items o.done i at;
}

open_more : (a b : Skeleton) (items : List Item) (old more : List OpenMap) → AreOpen a b items old → AreOpen a b items more → AreOpen a b items (old ++ more)
open_more a b items old more first second o p = elim (in_append old more p) as (λ _. IsOpenMap a b items o) [
  | inl q ↦ first o q
  | inr q ↦ second o q
]

one_open : (a b : Skeleton) (items : List Item) (o : OpenMap) → IsOpenMap a b items o → AreOpen a b items (o ∷ [])
one_open a b items o h p here = h
one_open a b items o h p (there q) = elim q [ ]

two_open : (a b : Skeleton) (items : List Item) (o p : OpenMap) → IsOpenMap a b items o → IsOpenMap a b items p → AreOpen a b items (o ∷ p ∷ [])
two_open a b items o p h k q here = h
two_open a b items o p h k q (there r) = one_open a b items p k q r

-- A map that can be found either takes this choice or a later one.
this_or_later : (a b : Skeleton) (items : List Item) (o : OpenMap) (i : Item) → item_at items o.done ≡ Some i → (f : SkeletonMap) → IsWithin a b items f o →
    TakesItem a b i o.choice f ⊎ IsWithin a b items f (tried o)
this_or_later a b items o i at f w =
    let t = subst (λ (is : List Item). TakesFrom a b is o.choice f) (next_item items o.done i at) w.1 in
    elim (eq-or-lt_of_le t.1) as (λ _. TakesItem a b i o.choice f ⊎ IsWithin a b items f (tried o)) [
      | inl e ↦ inl (subst (λ (image : ℕ). TakesItem a b i image f) (sym e) t.3)
      | inr l ↦ inr (w.0, subst (λ (is : List Item). TakesFrom a b is (o.choice + 1) f) (sym (next_item items o.done i at)) (t.0, omega (arith, l), t.2, t.3))
    ]

steps_at : (b : Skeleton) (items : List Item) (o : OpenMap) (i : Item) → item_at items o.done ≡ Some i → steps_of b items o ≡ suc ((item_count i.kind b - o.choice) * suc (steps_left b (drop (o.done + 1) items) 0))
steps_at b items o i at = ap (λ (is : List Item). steps_left b is o.choice) (next_item items o.done i at)

fewer : (b : Skeleton) (items : List Item) (o : OpenMap) (i : Item) → item_at items o.done ≡ Some i → o.choice < item_count i.kind b →
    (steps_of b items (tried o) + steps_left b (drop (o.done + 1) items) 0) < steps_of b items o
fewer b items o i at l =
    let e = steps_at b items o i at in
    let g = steps_at b items (tried o) i at in
    let m = choice_less (item_count i.kind b) o.choice (steps_left b (drop (o.done + 1) items) 0) l in
    omega (arith, e, g, m)

-- Maps that together have fewer steps, and from which all can be found that can be found from the last, take its place.
last_replaced : (a b : Skeleton) (items : List Item) (o : OpenMap) (old more : List OpenMap) → AreOpen a b items old → AreOpen a b items more →
    ((f : SkeletonMap) → IsEmbedding a b f → IsWithin a b items f o → IsWithinSome a b items f more) → all_steps b items more < steps_of b items o → TakePlace a b items o old (old ++ more)
last_replaced a b items o old more first second found l = record {
  are_open = open_more a b items old more first second;
  none_lost = λ f embeds w. elim (front_or_last a b items f o old w) as (λ _. IsWithinSome a b items f (old ++ more)) [
    | inl p ↦ in_longer a b items f old more p
    | inr p ↦ let s = found f embeds p in in_more a b items f old more s.place s.listed s.within
  ];
  fewer_steps =
      let e = steps_append b items old (o ∷ []) in
      let g = steps_append b items old more in
      omega (arith, e, g, l);
}

module _ (a b : Skeleton) (items : List Item) (o : OpenMap) (old : List OpenMap) (i : Item) (at : item_at items o.done ≡ Some i) (l : o.choice < item_count i.kind b) (h : IsOpenMap a b items o) (are : AreOpen a b items old)
    (among : AreItemsOf a items) (order : IsOrdered a) (other : IsOrdered b) where
  -- Nothing is found by this choice.
  choice_fails : IsOfNoExtension (λ f. KeepsOrderApart a b f × TakesItem a b i o.choice f) o.given → TakePlace a b items o old (old ++ (tried o ∷ []))
  choice_fails never =
      let m = fewer b items o i at l in
      last_replaced a b items o old (tried o ∷ []) are (one_open a b items (tried o) (tried_open a b items o h))
      (λ f embeds p. later f embeds p (this_or_later a b items o i at f p)) (omega (arith, m))
    where
      later : (f : SkeletonMap) → IsEmbedding a b f → IsWithin a b items f o → TakesItem a b i o.choice f ⊎ IsWithin a b items f (tried o) → IsWithinSome a b items f (tried o ∷ [])
      later f embeds p (inl t) = absurd (never f p.0 (record { apart = embedding_apart a b f embeds; pairs = embedding_pairs a b f order other embeds }, t))
      later f embeds p (inr q) = record { place = tried o; listed = here; within = q }

  -- This is found by it.
  choice_works : (q : PartialMap) → IsExtended (TakesItem a b i o.choice) o.given q → TakePlace a b items o old (old ++ (tried o ∷ found_next o q ∷ []))
  choice_works q k =
      let m = fewer b items o i at l in
      last_replaced a b items o old (tried o ∷ found_next o q ∷ []) are
      (two_open a b items (tried o) (found_next o q) (tried_open a b items o h) (found_open a b items o i q at h k))
      (λ f embeds p. later f embeds p (this_or_later a b items o i at f p)) (omega (arith, m))
    where
      later : (f : SkeletonMap) → IsEmbedding a b f → IsWithin a b items f o → TakesItem a b i o.choice f ⊎ IsWithin a b items f (tried o) → IsWithinSome a b items f (tried o ∷ found_next o q ∷ [])
      later f embeds p (inl t) = record {
        place = found_next o q;
        listed = there here;
        within = (k.general f p.0 t, takes_next a b f embeds (drop (o.done + 1) items) (λ j r. among.only j (in_rest items (o.done + 1) r)));
      }
      later f embeds p (inr r) = record { place = tried o; listed = here; within = r }

  -- The item is placed already: all maps that follow the partial one take some choice for it.
  pub choice_placed : IsPlaced a b o.given i → TakePlace a b items o old (old ++ (placed_map o ∷ []))
  choice_placed placed =
      let m = fewer b items o i at l in
      last_replaced a b items o old (placed_map o ∷ []) are (one_open a b items (placed_map o) (placed_open placed))
      (λ f embeds p. record {
        place = placed_map o;
        listed = here;
        within = (p.0, takes_next a b f embeds (drop (o.done + 1) items) (λ j r. among.only j (in_rest items (o.done + 1) r)));
      }) (omega (arith, m))
    where
      placed_now : IsPlaced a b o.given i → (item : Item) → IsIn item (take o.done items) ⊎ IsIn item (i ∷ []) → IsPlaced a b o.given item
      placed_now placed item (inl p) = h.placed item p
      placed_now placed item (inr here) = placed
      placed_now placed item (inr (there p)) = elim p [ ]

      placed_open : IsPlaced a b o.given i → IsOpenMap a b items (placed_map o)
      placed_open placed = record {
        consistent = h.consistent;
        problem = h.problem;
        placed = λ item p. placed_now placed item (in_append (take o.done items) (i ∷ []) (subst (IsIn item) (taken_item items o.done i at) p));
        within = within_length items o.done i at;
      }

  -- This choice is tried.
  pub choice_tried : (found : Option Partial) → FindsAmong (KeepsOrderApart a b) (TakesItem a b i o.choice) o.given found → TakePlace a b items o old (old ++ next_maps o (option_map partial_view found))
  choice_tried None never = choice_fails never
  choice_tried (Some q) k = choice_works (partial_view q) k

-- ---- choices that are passed over

module _ (a b : Skeleton) (items : List Item) (o : OpenMap) (i : Item) (at : item_at items o.done ≡ Some i) where
  -- All choices that are left hold for no map.
  pub none_left_to_try : ArePassed a b i o.given o.choice (item_count i.kind b) → (f : SkeletonMap) → IsEmbedding a b f → IsWithin a b items f o → ⊥
  none_left_to_try passed f h w =
      let t = subst (λ (is : List Item). TakesFrom a b is o.choice f) (next_item items o.done i at) w.1 in
      passed t.0 t.1 t.2 f w.0 t.3

  module _ (n : ℕ) (passed : ArePassed a b i o.given o.choice n) where
    -- What can still be found can be found from a later choice.
    found_later : (f : SkeletonMap) → IsWithin a b items f o → IsWithin a b items f (from_choice o n)
    found_later f w =
        let t = subst (λ (is : List Item). TakesFrom a b is o.choice f) (next_item items o.done i at) w.1 in
        (w.0, subst (λ (is : List Item). TakesFrom a b is n f) (sym (next_item items o.done i at)) (t.0, not_passed t.0 t.1 t.3 (cases_lt t.0 n), t.2, t.3))
      where
        not_passed : (image : ℕ) → o.choice ≤ image → TakesItem a b i image f → (image < n) ⊎ (n ≤ image) → n ≤ image
        not_passed image l t (inl k) = absurd (passed image l k f w.0 t)
        not_passed image l t (inr k) = k

    no_more_left : o.choice ≤ n → steps_of b items (from_choice o n) ≤ steps_of b items o
    no_more_left l =
        let w : ℕ = suc (steps_left b (drop (o.done + 1) items) 0) in
        let e = steps_at b items o i at in
        let g = steps_at b items (from_choice o n) i at in
        let m : (item_count i.kind b - n) * w ≤ (item_count i.kind b - o.choice) * w = mul-le-mul_right w (omega (arith, l)) in
        omega (arith, e, g, m)

    -- What takes the place of the same partial map with a later choice takes its place.
    from_later : (old new : List OpenMap) → o.choice ≤ n → TakePlace a b items (from_choice o n) old new → TakePlace a b items o old new
    from_later old new l t = record {
      are_open = t.are_open;
      none_lost = λ f embeds w. elim (front_or_last a b items f o old w) as (λ _. IsWithinSome a b items f new) [
        | inl p ↦ t.none_lost f embeds (in_longer a b items f old (from_choice o n ∷ []) p)
        | inr p ↦ t.none_lost f embeds (in_more a b items f old (from_choice o n ∷ []) (from_choice o n) here (found_later f p))
      ];
      fewer_steps =
          let e = steps_append b items old (o ∷ []) in
          let g = steps_append b items old (from_choice o n ∷ []) in
          let m = no_more_left l in
          let k = t.fewer_steps in
          omega (arith, e, g, m, k);
    }

module _ (a b : Skeleton) (items : List Item) (o : OpenMap) (old : List OpenMap) (i : Item) (at : item_at items o.done ≡ Some i) (h : IsOpenMap a b items o) (are : AreOpen a b items old)
    (among : AreItemsOf a items) (order : IsOrdered a) (other : IsOrdered b) (n : Choice) (next : IsNextChoice a b i o.given o.choice n) where
  -- The next choice holds for sure.
  pub next_sure : IsTrue n.is_sure → TakePlace a b items o old (old ++ (placed_map o ∷ []))
  next_sure sure =
      let l : o.choice ≤ n.number = next.behind in
      let k : n.number < item_count i.kind b = next.within in
      choice_placed a b items o old i at (omega (arith, l, k)) h are among order other (n.number, next.sure sure)

  -- It is tried.
  pub next_tried : (found : Option Partial) → FindsAmong (KeepsOrderApart a b) (TakesItem a b i n.number) o.given found →
      TakePlace a b items o old (old ++ next_maps (from_choice o n.number) (option_map partial_view found))
  next_tried found k =
      from_later a b items o i at n.number next.passed old (old ++ next_maps (from_choice o n.number) (option_map partial_view found)) next.behind
      (choice_tried a b items (from_choice o n.number) old i at next.within (record { consistent = h.consistent; problem = h.problem; placed = h.placed; within = h.within }) are among order other found k)

-- ---- the whole search

pub first_open : (a b : Skeleton) (items : List Item) (given : PartialMap) → IsStarted a b given → AreOpen a b items (record { done = 0; choice = 0; given = given } ∷ [])
first_open a b items given h = one_open a b items (record { done = 0; choice = 0; given = given })
    (record { consistent = h.consistent; problem = h.problem; placed = λ item p. elim p [ ]; within = omega arith })

pub first_within : (a b : Skeleton) (items : List Item) (given : PartialMap) → AreItemsOf a items → (f : SkeletonMap) → IsEmbedding a b f → ExtendsPartial f given →
    IsWithinSome a b items f (record { done = 0; choice = 0; given = given } ∷ [])
first_within a b items given among f embeds follows = record {
  place = record { done = 0; choice = 0; given = given };
  listed = here;
  within = (follows, takes_next a b f embeds items among.only);
}

-- ---- lists of branches

pub popped : (xs ys : List Branch) (o : Branch) → xs ≡ ys ++ (o ∷ []) → branches_view xs ≡ branches_view ys ++ (branch_view o ∷ [])
popped xs ys o e = ap branches_view e ∙ map-append branch_view ys (o ∷ [])

pub last_open : (a b : Skeleton) (items : List Item) (os : List OpenMap) (o : OpenMap) → AreOpen a b items (os ++ (o ∷ [])) → IsOpenMap a b items o
last_open a b items os o are = are o (in_append_right os here)

pub front_open : (a b : Skeleton) (items : List Item) (os : List OpenMap) (o : OpenMap) → AreOpen a b items (os ++ (o ∷ [])) → AreOpen a b items os
front_open a b items os o are p m = are p (in_append_left (o ∷ []) m)

pub none_weaker : {A : Type 0} (found : Option A) (P Q : Type 0) → (P → Q) → IfNone found P → IfNone found Q
none_weaker None P Q f p = f p
none_weaker (Some x) P Q f p = tt
