-- The first numbers that are equal to each, and the partition that they give where strands go to the places of blocks.
use Rattle.std.proofs.Common.{◌≡◌, ℕ, zero, suc, ◌<◌, Bool, true, false, nat_eq, List, [], ◌∷◌, Some, length, map, refl, sym, ap, ◌∙◌, arith, eq-eqb, eqb-true}
use Rattle.std.proofs.lemmas.List.{length-map}
use Rattle.cp_lists.specs.Lists.{item_at}
use Rattle.cp_model.specs.Skeleton.{Skeleton}
use Rattle.cp_model.specs.Problem.{numbers_from}
use Rattle.cp_model.proofs.NumbersFrom.{numbers_length}
use Rattle.cp_lists.proofs.Items.{item_below, item_there, map_of_item}
use Rattle.cp_lists.proofs.SameLists.{same_items}
use Rattle.cp_collapse.specs.Partitions.{lowest_before, place_in, IsPartitionByRole}
use Rattle.cp_collapse.proofs.Lowest.{numbers_at}
use Rattle.cp_collapse.proofs.Places.{own_entry, one_at_place, place_of_entry}
use Rattle.cp_fingerprint.specs.FirstPlaces.{first_place_of, firsts}

-- ---- which is the first

first_here : (n m : ℕ) (ms : List ℕ) → m ≡ n → first_place_of n (m ∷ ms) ≡ 0
first_here n m ms e = rw (eq-eqb m n e) refl

first_later : (n m : ℕ) (ms : List ℕ) (b : Bool) → nat_eq m n ≡ b → (m ≡ n → ⊥) → first_place_of n (m ∷ ms) ≡ suc (first_place_of n ms)
first_later n m ms true q ne = absurd (ne (eqb-true m n q))
first_later n m ms false q ne = rw q refl

first_next : (n m : ℕ) (ms : List ℕ) (i : ℕ) → (m ≡ n → ⊥) → first_place_of n ms ≡ i → first_place_of n (m ∷ ms) ≡ suc i
first_next n m ms i ne e = first_later n m ms (nat_eq m n) refl ne ∙ ap suc e

first_is : (n : ℕ) (ms : List ℕ) (i : ℕ) → item_at ms i ≡ Some n → ((j : ℕ) → j < i → item_at ms j ≡ Some n → ⊥) → first_place_of n ms ≡ i
first_is n [] i e low = absurd (cc)
first_is n (m ∷ ms) zero e low = first_here n m ms (cc)
first_is n (m ∷ ms) (suc i) e low = first_next n m ms i (λ f. low 0 (omega arith) (ap Some f)) (first_is n ms i e (λ j l f. low (suc j) (omega (arith, l)) f))

-- ---- lists with the same items

-- ---- the partition

module _ (k : Skeleton) (p : List ℕ) (part : IsPartitionByRole k p) where
  abbrev places_of : List ℕ
  places_of = map (place_in p) (numbers_from 0 k.strands)

  goes_to : (s : ℕ) → s < length p → item_at places_of s ≡ Some (place_in p s)
  goes_to s l =
      let e = part.each in
      let m : s < length k.strands = omega (arith, l, e) in
      let at : item_at (numbers_from 0 k.strands) s ≡ Some s = numbers_at 0 k.strands s m ∙ ap Some (omega arith) in
      map_of_item (place_in p) (numbers_from 0 k.strands) s s at

  -- A strand below the lowest of a block goes elsewhere.
  lower_elsewhere : (l j : ℕ) → item_at p l ≡ Some l → j < l → place_in p j ≡ lowest_before p l → ⊥
  lower_elsewhere l j own less e =
      let below : l < length p = item_below p l l own in
      let r = item_there p j (omega (arith, below, less)) in
      let low = part.lowest j r.0 r.1 in
      let le = low.0 in
      let same : r.0 ≡ l = one_at_place p r.0 l (own_entry p r.0 low.1) (own_entry p l own) (sym (place_of_entry p j r.0 r.1) ∙ e) in
      omega (arith, le, same, less)

  none_lower : (s l j : ℕ) → item_at p l ≡ Some l → place_in p s ≡ lowest_before p l → j < l → item_at places_of j ≡ Some (place_in p s) → ⊥
  none_lower s l j own place less at =
      let below : l < length p = item_below p l l own in
      let there : item_at places_of j ≡ Some (place_in p j) = goes_to j (omega (arith, below, less)) in
      let same : Some (place_in p j) ≡ Some (place_in p s) = sym there ∙ at in
      let one : place_in p j ≡ place_in p s = cc in
      lower_elsewhere l j own less (one ∙ place)

  first_in_block : (s l : ℕ) → item_at p s ≡ Some l → first_place_of (place_in p s) places_of ≡ l
  first_in_block s l e =
      let own : item_at p l ≡ Some l = (part.lowest s l e).1 in
      let place : place_in p s ≡ lowest_before p l = place_of_entry p s l e in
      let at : item_at places_of l ≡ Some (place_in p s) = goes_to l (item_below p l l own) ∙ ap Some (place_of_entry p l l own ∙ sym place) in
      first_is (place_in p s) places_of l at (λ j less there. none_lower s l j own place less there)

  -- The first strands of the same places are the partition.
  pub firsts_of_places : firsts places_of ≡ p
  firsts_of_places =
      same_items (firsts places_of) p
      (length-map places_of (λ n. first_place_of n places_of) ∙ length-map (numbers_from 0 k.strands) (place_in p) ∙ numbers_length 0 k.strands ∙ sym part.each)
      (λ s l e. map_of_item (λ n. first_place_of n places_of) places_of s (place_in p s) (goes_to s (item_below p s l e)) ∙ ap Some (first_in_block s l e))
