-- Labels that are made one after the other.
use Rattle.std.proofs.Common.{◌≡◌, ◌∙◌, ℕ, suc, ◌+◌, ◌-◌, List, [], ◌∷◌, ◌++◌, length, map, false, Some, refl, sym, ap, subst, arith}
use Rattle.std.specs.List.{range_with_len}
use Rattle.std.proofs.lemmas.List.{append_assoc, append-nil, length-append, length-map, map-append}
use Rattle.cp_model.specs.Problem.{numbers_from}
use Rattle.cp_model.specs.Skeleton.{Skeleton}
use Rattle.cp_cohort.specs.declared.child.Child.{Child}
use Rattle.cp_roots.specs.Roots.{in_report_order}
use Rattle.cp_tree.specs.Made as plain
use Rattle.cp_tree.specs.Made.{made_of_child}
use Rattle.cp_search.specs.declared.made.Made.{Made}
use Rattle.cp_search.specs.MadeLabels.{made_view, AreFound, AddsMade, AddMade}
use Rattle.cp_search.proofs.StillToCome.{next_whole}

-- ---- one more

pub none_made : (old : List Made) → AreFound old → AddMade [] old old
none_made old found = record { added = []; behind = sym (append-nil old); same = refl; found = found }

pub one_more_made : (ms : List plain.Made) (m : plain.Made) (old mid new : List Made) → AddMade ms old mid → AddsMade m mid new → AddMade (ms ++ m ∷ []) old new
one_more_made ms m old mid new so_far next = record {
  added = so_far.added ++ next.added ∷ [];
  behind = next.behind ∙ (ap (λ (xs : List Made). xs ++ next.added ∷ []) so_far.behind ∙ append_assoc old so_far.added (next.added ∷ []));
  same = map-append made_view so_far.added (next.added ∷ []) ∙ (ap (λ (xs : List plain.Made). xs ++ made_view next.added ∷ []) so_far.same ∙ ap (λ (x : plain.Made). ms ++ x ∷ []) next.same);
  found = next.found;
}

-- ---- one of each

-- Of what is taken in its order, the labels of all in front of what is left are made behind others.
pub record AreMadeInTurn {A : Type 0} (label_of : A → plain.Made) (all left : List A) (old new : List Made) : Type 0 where
  pub done : List A
  pub whole : done ++ left ≡ all
  pub made : AddMade (map label_of done) old new

module _ {A : Type 0} (label_of : A → plain.Made) (all left : List A) where
  pub none_in_turn : (old : List Made) → left ≡ all → AreFound old → AreMadeInTurn label_of all left old old
  none_in_turn old same found = record { done = []; whole = same; made = none_made old found }

  pub next_in_turn : (rest : List A) (x : A) (old mid new : List Made) → AreMadeInTurn label_of all left old mid → left ≡ x ∷ rest → AddsMade (label_of x) mid new → AreMadeInTurn label_of all rest old new
  next_in_turn rest x old mid new so_far taken next = record {
    done = so_far.done ++ x ∷ [];
    whole = next_whole all so_far.done left rest x so_far.whole taken;
    made = subst (λ (ms : List plain.Made). AddMade ms old new) (sym (map-append label_of so_far.done (x ∷ []))) (one_more_made (map label_of so_far.done) (label_of x) old mid new so_far.made next);
  }

-- All were taken.
module _ {A : Type 0} (label_of : A → plain.Made) (all : List A) where
  pub all_in_turn : (left : List A) (old new : List Made) (n : ℕ) → AreMadeInTurn label_of all left old new → n ≡ length left → n ≡ 0 → AddMade (map label_of all) old new
  all_in_turn [] old new n so_far count none = subst (λ (xs : List A). AddMade (map label_of xs) old new) (sym (append-nil so_far.done) ∙ so_far.whole) so_far.made
  all_in_turn (x ∷ left) old new n so_far count none = absurd (omega (arith, count, none))

-- No label is found yet.
pub none_found : (new : List Made) → new ≡ [] → AreFound new
none_found new none = subst AreFound (sym none) (record { each = λ i m at. absurd (cc); later = λ i p m at from. absurd (cc) })

-- ---- children

-- The label of a child, whose skeleton is put into the order of a report.
pub child_made : (parent : ℕ) (c : Child) (k : Skeleton) (old new : List Made) → k ≡ in_report_order c.skeleton
    → AddsMade (record { parent = Some parent; operation = c.operation; skeleton = k; dead = false }) old new → AddsMade (made_of_child parent c) old new
child_made parent c k old new listed adds =
    subst (λ (x : Skeleton). AddsMade (record { parent = Some parent; operation = c.operation; skeleton = x; dead = false }) old new) listed adds

-- As many labels more are there as were made.
pub made_count : (ms : List plain.Made) (old new : List Made) → AddMade ms old new → length new ≡ length old + length ms
made_count ms old new a =
    let b : length new ≡ length (old ++ a.added) = ap length a.behind in
    let c : length (old ++ a.added) ≡ length old + length a.added = length-append old a.added in
    let d : length (map made_view a.added) ≡ length ms = ap length a.same in
    let e : length (map made_view a.added) ≡ length a.added = length-map a.added made_view in
    omega arith

numbers_in_range : {A : Type 0} (n : ℕ) (xs : List A) → range_with_len n (length xs) ≡ numbers_from n xs
numbers_in_range n [] = refl
numbers_in_range n (x ∷ xs) = let e : n + 1 ≡ suc n = omega arith in ap (λ (k : ℕ). n ∷ range_with_len k (length xs)) e ∙ ap (λ (ns : List ℕ). n ∷ ns) (numbers_in_range (suc n) xs)

-- Their numbers.
pub made_numbers : {A : Type 0} (label_of : A → plain.Made) (all : List A) (old new : List Made) (first last : ℕ) → AddMade (map label_of all) old new → first ≡ length old → last ≡ length new → range_with_len first (last - first) ≡ numbers_from (length old) all
made_numbers label_of all old new first last a from to =
    let b = made_count (map label_of all) old new a in
    let c = length-map all label_of in
    let d : last - first ≡ length all = omega (arith, b, c, from, to) in
    ap (λ (k : ℕ). range_with_len k (last - first)) from ∙ (ap (range_with_len (length old)) d ∙ numbers_in_range (length old) all)
