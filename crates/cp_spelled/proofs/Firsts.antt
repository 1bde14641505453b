-- The first of the misfits met so far, in the order of places.
use Rattle.std.proofs.Common.{◌≡◌, ℕ, List, [], ◌∷◌, true, false, arith}
use Rattle.std.specs.Prelude.{Option, Some, None, nat_lt, ◌==◌, ◌||◌, ◌&&◌}
use Rattle.std.proofs.lemmas.Bool.Decides.{nat_tests}
use Rattle.cp_lists.specs.Lists.{here, there}
use Rattle.cp_lists.proofs.Members.{among_two}
use Rattle.cp_base.specs.declared.place.Place.{Place}
use Rattle.cp_scope.proofs.FirstOf as first
use Rattle.cp_scope.proofs.FirstOf.{IsOrder}
use Rattle.cp_report.specs.Misfits.{place_before, IsFirstMisfit, unless_misfit}
use Rattle.cp_report.proofs.OneAnswer.{not_before, one_first}
use Rattle.cp_spelled.specs.FirstMisfit.{first_onto, merged, onto_none}

not_before_self : (l c : ℕ) → (nat_lt l l || ((l == l) && nat_lt c c)) ≡ false
not_before_self l c = grind (arith, nat_tests)

not_both : (l m c d : ℕ) → (nat_lt l m || ((l == m) && nat_lt c d)) ≡ true → (nat_lt m l || ((m == l) && nat_lt d c)) ≡ false
not_both l m c d g = grind (arith, nat_tests)

behind_itself : (p : Place) → place_before p p ≡ false
behind_itself p = not_before_self p.line p.col

behind_other : (p q : Place) → place_before p q ≡ true → place_before q p ≡ false
behind_other p q h = not_both p.line q.line p.col q.col h

behind_both : (p q r : Place) → place_before q p ≡ false → place_before r q ≡ false → place_before r p ≡ false
behind_both p q r g h = not_before p.line q.line r.line p.col q.col r.col g h

one_of_two : (p q : Place) → place_before p q ≡ false → place_before q p ≡ false → p ≡ q
one_of_two p q g h =
    one_first (p ∷ q ∷ []) p q (record { listed = here; first = among_two place_before p q p (behind_itself p) h }) (record { listed = there here; first = among_two place_before p q q g (behind_itself q) })

pub in_order : IsOrder place_before
in_order = record { itself = behind_itself; other = behind_other; both = behind_both; same = one_of_two }

-- The first that is met is the first misfit.
pub first_found : (places : List Place) (p : Place) → first_onto None places ≡ Some p → IsFirstMisfit places p
first_found places p e = let one = first.first_found place_before in_order places p e in record { listed = one.listed; first = one.first }

-- Others count only where there is no misfit among the first.
pub merged-unless : (o i j k : Option Place) (places others : List Place) → i ≡ first_onto None places → j ≡ onto_none i others → k ≡ merged o j → k ≡ first_onto o (unless_misfit places others)
merged-unless o i j k [] others e f g = first.merged-unless place_before in_order o i j k [] others e f g
merged-unless o i j k (p ∷ ps) others e f g = first.merged-unless place_before in_order o i j k (p ∷ ps) others e f g
