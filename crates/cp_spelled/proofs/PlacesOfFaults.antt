-- The place of the first of the faults is the first of their places.
use Rattle.std.proofs.Common.{◌≡◌, ℕ, List, [], ◌∷◌, map, Bool, true, false, if◌then◌else◌, refl, ap, ◌∙◌, arith}
use Rattle.std.specs.Prelude.{Option, Some, None, is_none, option_map, nat_lt, ◌==◌, ◌||◌, ◌&&◌}
use Rattle.std.proofs.lemmas.Bool.Decides.{nat_tests}
use Rattle.cp_base.specs.declared.place.Place.{Place}
use Rattle.cp_base.specs.declared.place.Code.TheVariants.{BadShape}
use Rattle.cp_base.specs.declared.place.Refusal.{Refusal}
use Rattle.cp_language.specs.Faults.{fault, fault_unless}
use Rattle.cp_language.specs.FirstFault.{refusal_before, rank_of}
use Rattle.cp_scope.specs.FirstFault as faults
use Rattle.cp_report.specs.Misfits.{misfit, misfit_unless, place_before}
use Rattle.cp_spelled.specs.FirstMisfit.{earlier_of, first_onto, merged, onto_none}
use Rattle.cp_spelled.proofs.Firsts.{in_order}

-- a fault that comes first stands behind no other place, and one at an earlier place comes first
not_behind : (l m c d k n : ℕ) → (nat_lt l m || ((l == m) && (nat_lt c d || ((c == d) && nat_lt k n)))) ≡ true → (nat_lt m l || ((m == l) && nat_lt d c)) ≡ false
not_behind l m c d k n h = grind (arith, nat_tests)

comes_first : (l m c d k n : ℕ) → (nat_lt l m || ((l == m) && nat_lt c d)) ≡ true → (nat_lt l m || ((l == m) && (nat_lt c d || ((c == d) && nat_lt k n)))) ≡ true
comes_first l m c d k n h = grind (arith, nat_tests)

place_of_earlier : (o : Option Refusal) (r : Refusal) → (faults.earlier_of o r).place ≡ earlier_of (option_map (λ s. s.place) o) r.place
place_of_earlier None r = refl
place_of_earlier (Some s) r = by_tests (refusal_before r s) (place_before r.place s.place) refl refl
  where
    by_tests : (b c : Bool) → refusal_before r s ≡ b → place_before r.place s.place ≡ c → (if b then r else s).place ≡ (if c then r.place else s.place)
    by_tests true true g h = refl
    by_tests false false g h = refl
    by_tests true false g h = in_order.same r.place s.place h (not_behind r.place.line s.place.line r.place.col s.place.col (rank_of r.code) (rank_of s.code) g)
    by_tests false true g h =
        let first : refusal_before r s ≡ true = comes_first r.place.line s.place.line r.place.col s.place.col (rank_of r.code) (rank_of s.code) h in
        absurd (cc)

places_onto : (o : Option Refusal) (rs : List Refusal) → option_map (λ r. r.place) (faults.first_onto o rs) ≡ first_onto (option_map (λ r. r.place) o) (map (λ r. r.place) rs)
places_onto o [] = refl
places_onto o (r ∷ rs) = places_onto (Some (faults.earlier_of o r)) rs ∙ ap (λ p. first_onto (Some p) (map (λ s. s.place) rs)) (place_of_earlier o r)

unless_place : (b : Bool) (at : Place) → map (λ (r : Refusal). r.place) (fault_unless b at BadShape) ≡ misfit_unless b at
unless_place true at = refl
unless_place false at = refl

pub none_noted : (o : Option Refusal) (b : Bool) → b ≡ is_none o → b ≡ is_none (option_map (λ r. r.place) o)
none_noted None b e = e
none_noted (Some r) b e = e

pub noted : (o p : Option Refusal) (at : Place) → p ≡ faults.first_onto o (fault at BadShape) → option_map (λ r. r.place) p ≡ first_onto (option_map (λ r. r.place) o) (misfit at)
noted o p at e = ap (option_map (λ r. r.place)) e ∙ places_onto o (fault at BadShape)

pub noted_unless : (o p : Option Refusal) (b : Bool) (at : Place) → p ≡ faults.first_onto o (fault_unless b at BadShape)
    → option_map (λ r. r.place) p ≡ first_onto (option_map (λ r. r.place) o) (misfit_unless b at)
noted_unless o p b at e = ap (option_map (λ r. r.place)) e ∙ places_onto o (fault_unless b at BadShape) ∙ ap (first_onto (option_map (λ r. r.place) o)) (unless_place b at)

pub noted_where_none : (o p : Option Refusal) (b : Bool) (at : Place) → p ≡ faults.onto_none o (fault_unless b at BadShape)
    → option_map (λ r. r.place) p ≡ onto_none (option_map (λ r. r.place) o) (misfit_unless b at)
noted_where_none None p b at e = noted_unless None p b at e
noted_where_none (Some r) p b at e = ap (option_map (λ s. s.place)) e

pub noted_of_others : (o p q : Option Refusal) → p ≡ faults.merged o q → option_map (λ r. r.place) p ≡ merged (option_map (λ r. r.place) o) (option_map (λ r. r.place) q)
noted_of_others o p None e = ap (option_map (λ r. r.place)) e
noted_of_others o p (Some r) e = ap (option_map (λ s. s.place)) e ∙ places_onto o (r ∷ [])
