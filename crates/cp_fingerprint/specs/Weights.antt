-- Sums of weights beside values.
use Rattle.std.specs.Prelude.{◌≡◌, ◌+◌, ◌-◌, ◌*◌, ⊤, ℕ, List, [], ◌∷◌, ◌++◌, length, drop, map, get_or, if◌then◌else◌}
use Rattle.cp_model.specs.Term.{Term}
use Rattle.cp_model.specs.Same.{same_term}
use Rattle.cp_model.specs.declared.strand.Event.{Event}
use Rattle.cp_fingerprint.specs.SharedValues.{kept, weight_from, named_from, heard_weight}
use Rattle.cp_fingerprint.specs.Slots.{Slot}
use Rattle.cp_fingerprint.specs.Values.{IsPlaceOf}
use Rattle.cp_fingerprint.specs.declared.shares.Place.{Place}
use Rattle.cp_fingerprint.specs.declared.sums.Sums.{Sums}
use Rattle.cp_fingerprint.specs.declared.sums.ValueSum.{ValueSum}

-- The sum beside this value, if it is one of the values; else 0.
abbrev pub sum_beside : Term → List Term → List ℕ → ℕ
sum_beside t [] ns = 0
sum_beside t (u ∷ us) [] = 0
sum_beside t (u ∷ us) (n ∷ ns) = if same_term t u then n else sum_beside t us ns

-- These are the weight of each place and the number of its value, for one place after another.
abbrev pub AreNumbered : List Slot → List Place → List Term → Type 0
AreNumbered [] [] us = ⊤
AreNumbered [] (p ∷ ps) us = ⊥
AreNumbered (x ∷ xs) [] us = ⊥
AreNumbered (x ∷ xs) (p ∷ ps) us = ((p.weight ≡ x.weight) × IsPlaceOf x.value us p.number) × AreNumbered xs ps us

abbrev pub values_of : Sums → List Term
values_of s = map (λ v. v.value) s.sums.items

abbrev pub sums_of : Sums → List ℕ
sums_of s = map (λ v. v.sum) s.sums.items

-- The table has the values behind the first few; the sum of each value is the weight of those of these places at which it stands; and
-- the places are numbered.
abbrev pub AreSumsOf : List Slot → Sums → Type 0
AreSumsOf xs s = (s.more ≡ drop 16 (values_of s)) × ((t : Term) → sum_beside t (values_of s) (sums_of s) ≡ weight_from 0 t xs) × AreNumbered xs s.places.items (values_of s)

-- From the sums s to the sums r these places are added.
pub record AreAdded (xs : List Slot) (s r : Sums) : Type 0 where
  pub count : length r.places.items ≡ length s.places.items + length xs
  pub sums : (before : List Slot) → AreSumsOf before s → AreSumsOf (before ++ xs) r

-- How much the value weighs whose sum this is.
abbrev pub weight_beside : List (Event Term) → List Slot → ValueSum → ℕ
weight_beside es all v = kept (named_from (heard_weight es v.value) v.value all + v.sum)

-- With n, the weight of each of these places as often as its value weighs, added up.
abbrev pub placed_from : List ℕ → ℕ → List Place → ℕ
placed_from ws n [] = n
placed_from ws n (p ∷ ps) = placed_from ws (kept (n + kept (p.weight * get_or ws p.number 0))) ps

-- The place, which weighs the more the less it did.
abbrev pub lightened : Place → Place
lightened p = record { weight = 4093 - p.weight; number = p.number }
