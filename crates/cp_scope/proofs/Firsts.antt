-- The first of the faults met so far.
use Rattle.std.proofs.Common.{◌≡◌, List, [], ◌∷◌, ◌++◌, true, false, refl, ap, ◌∙◌}
use Rattle.std.specs.Prelude.{Option, Some, None}
use Rattle.cp_lists.specs.Lists.{here, there}
use Rattle.cp_lists.proofs.Members.{among_two}
use Rattle.cp_base.specs.declared.place.Refusal.{Refusal}
use Rattle.cp_language.specs.FirstFault.{rank_of, refusal_before, IsFirstFault}
use Rattle.cp_language.specs.Roles.{unless_faulty}
use Rattle.cp_language.proofs.OneAnswer.{not_before, not_before_self, not_both, one_first}
use Rattle.cp_scope.specs.FirstFault.{first_onto, merged, onto_none}
use Rattle.cp_scope.proofs.FirstOf as first
use Rattle.cp_scope.proofs.FirstOf.{IsOrder, unless_any}

behind_itself : (r : Refusal) → refusal_before r r ≡ false
behind_itself r = not_before_self r.place.line r.place.col (rank_of r.code)

behind_other : (r s : Refusal) → refusal_before r s ≡ true → refusal_before s r ≡ false
behind_other r s h = not_both r.place.line s.place.line r.place.col s.place.col (rank_of r.code) (rank_of s.code) h

behind_both : (r s t : Refusal) → refusal_before s r ≡ false → refusal_before t s ≡ false → refusal_before t r ≡ false
behind_both r s t g h = not_before r.place.line s.place.line t.place.line r.place.col s.place.col t.place.col (rank_of r.code) (rank_of s.code) (rank_of t.code) g h

one_of_two : (r s : Refusal) → refusal_before r s ≡ false → refusal_before s r ≡ false → r ≡ s
one_of_two r s g h =
    one_first (r ∷ s ∷ []) r s (record { listed = here; first = among_two refusal_before r s r (behind_itself r) h }) (record { listed = there here; first = among_two refusal_before r s s g (behind_itself s) })

in_order : IsOrder refusal_before
in_order = record { itself = behind_itself; other = behind_other; both = behind_both; same = one_of_two }

pub first_onto-append : (o : Option Refusal) (a b : List Refusal) → first_onto o (a ++ b) ≡ first_onto (first_onto o a) b
first_onto-append o a b = first.first_onto-append refusal_before o a b

-- ---- what it means

pub first_found : (rs : List Refusal) (r : Refusal) → first_onto None rs ≡ Some r → IsFirstFault rs r
first_found rs r e = let one = first.first_found refusal_before in_order rs r e in record { listed = one.listed; first = one.first }

pub none_found : (rs : List Refusal) → first_onto None rs ≡ None → rs ≡ []
none_found rs e = first.none_found refusal_before rs e

-- ---- the order of the faults does not matter

pub first_onto-swap : (o : Option Refusal) (a b : List Refusal) → first_onto o (a ++ b) ≡ first_onto o (b ++ a)
first_onto-swap o a b = first.first_onto-swap refusal_before in_order o a b

pub moved_behind : (o : Option Refusal) (a b c : List Refusal) → first_onto o ((a ++ b) ++ c) ≡ first_onto (first_onto o (a ++ c)) b
moved_behind o a b c = first.moved_behind refusal_before in_order o a b c

pub moved_behind_two : (o : Option Refusal) (a b c d : List Refusal) → first_onto o (((a ++ b) ++ c) ++ d) ≡ first_onto (first_onto o ((a ++ c) ++ d)) b
moved_behind_two o a b c d = first.moved_behind_two refusal_before in_order o a b c d

-- ---- one after another

pub first_then : (o p q : Option Refusal) (a b : List Refusal) → p ≡ first_onto o a → q ≡ first_onto p b → q ≡ first_onto o (a ++ b)
first_then o p q a b e f = first.first_then refusal_before o p q a b e f

pub first_then_three : (o p q r : Option Refusal) (a b c : List Refusal) → p ≡ first_onto o a → q ≡ first_onto p b → r ≡ first_onto q c → r ≡ first_onto o (a ++ b ++ c)
first_then_three o p q r a b c e f g = first.first_then_three refusal_before o p q r a b c e f g

pub first_then_four : (o p q r s : Option Refusal) (a b c d : List Refusal) → p ≡ first_onto o a → q ≡ first_onto p b → r ≡ first_onto q c → s ≡ first_onto r d → s ≡ first_onto o (a ++ b ++ c ++ d)
first_then_four o p q r s a b c d e f g h = first.first_then_four refusal_before o p q r s a b c d e f g h

-- ---- faults that are gathered apart

unless_is : (rs others : List Refusal) → unless_any rs others ≡ unless_faulty rs others
unless_is [] others = refl
unless_is (r ∷ rs) others = refl

pub merged-unless : (o i j k : Option Refusal) (rs others : List Refusal) → i ≡ first_onto None rs → j ≡ onto_none i others → k ≡ merged o j → k ≡ first_onto o (unless_faulty rs others)
merged-unless o i j k rs others e f g = first.merged-unless refusal_before in_order o i j k rs others e f g ∙ ap (first_onto o) (unless_is rs others)
