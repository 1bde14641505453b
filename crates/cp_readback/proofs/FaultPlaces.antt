-- The first fault of the input among the misfits of a report.
use Rattle.std.proofs.Common.{◌≡◌, ◌==◌, ◌&&◌, ◌||◌, Bool, true, false, List, [], ◌∷◌, ◌++◌, refl, sym, ap, ◌∙◌}
use Rattle.std.specs.Prelude.{Option, Some, None, option_map, nat_lt, if◌then◌else◌}
use Rattle.std.proofs.lemmas.Bool.Decides.{Decides-eqb}
use Rattle.std.proofs.lemmas.List.{append_assoc}
use Rattle.cp_base.specs.declared.place.Place.{Place}
use Rattle.cp_base.specs.declared.place.Refusal.{Refusal}
use Rattle.cp_language.specs.FirstFault.{rank_of, refusal_before}
use Rattle.cp_scope.specs.FirstFault as faults
use Rattle.cp_report.specs.ReadBack.{fault_places}
use Rattle.cp_spelled.specs.FirstMisfit.{earlier_of, first_onto, merged}
use Rattle.cp_report.specs.Misfits.{place_before}
use Rattle.cp_scope.proofs.FirstOf.{first_onto-append, first_onto-merged, first_onto-swap}
use Rattle.cp_spelled.proofs.Firsts.{in_order}

-- By place alone, or by place and then by kind: what comes before, and what does not, at another place.
by_place : (a b c d e : Bool) (p q : Place) → (b ≡ true → d ≡ true → q ≡ p)
    → (if a || (b && (c || (d && e))) then p else q) ≡ (if a || (b && c) then p else q)
by_place true b c d e p q same = refl
by_place false true true d e p q same = refl
by_place false true false true true p q same = sym (same refl refl)
by_place false true false true false p q same = refl
by_place false true false false e p q same = refl
by_place false false c d e p q same = refl

same_place : (p q : Place) → (p.line == q.line) ≡ true → (p.col == q.col) ≡ true → q ≡ p
same_place p q e f =
    let lines = (Decides-eqb p.line q.line).0 e in
    let columns = (Decides-eqb p.col q.col).0 f in
    λ i. record { line = sym lines i; col = sym columns i }

place_if : (b : Bool) (r s : Refusal) → (if b then r else s).place ≡ (if b then r.place else s.place)
place_if true r s = refl
place_if false r s = refl

earlier-place : (s r : Refusal) → (faults.earlier_of (Some s) r).place ≡ earlier_of (Some s.place) r.place
earlier-place s r =
    place_if (refusal_before r s) r s
    ∙ by_place (nat_lt r.place.line s.place.line) (r.place.line == s.place.line) (nat_lt r.place.col s.place.col) (r.place.col == s.place.col) (nat_lt (rank_of r.code) (rank_of s.code))
    r.place s.place (same_place r.place s.place)

-- the place of the first fault is the first of their places
first-place : (s : Refusal) (rs : List Refusal) → option_map (λ r. r.place) (faults.first_onto (Some s) rs) ≡ first_onto (Some s.place) (fault_places rs)
first-place s [] = refl
first-place s (r ∷ rs) = first-place (faults.earlier_of (Some s) r) rs ∙ ap (λ p. first_onto (Some p) (fault_places rs)) (earlier-place s r)

none-place : (rs : List Refusal) → option_map (λ r. r.place) (faults.first_onto None rs) ≡ first_onto None (fault_places rs)
none-place [] = refl
none-place (r ∷ rs) = first-place r rs

-- The first fault of the input and the first of the other misfits give the first of all.
pub gathered : (rs : List Refusal) (front trees : List Place) (fault : Option Refusal) (others all : Option Place)
    → fault ≡ faults.first_onto None rs → others ≡ first_onto None (front ++ trees) → all ≡ merged others (option_map (λ r. r.place) fault)
    → all ≡ first_onto None (fault_places rs ++ front ++ trees)
gathered rs front trees fault others all is_fault is_others is_all =
    let places = fault_places rs in
    is_all ∙ ap (merged others) (ap (option_map (λ r. r.place)) is_fault ∙ none-place rs)
    ∙ sym (first_onto-merged place_before in_order others places)
    ∙ ap (λ o. first_onto o places) is_others
    ∙ sym (first_onto-append place_before None (front ++ trees) places)
    ∙ first_onto-swap place_before in_order None (front ++ trees) places
    ∙ ap (first_onto None) (sym (append_assoc places front trees))
