-- Parents and children in tables.
use Rattle.std.proofs.Common.{◌≡◌, ℕ, zero, suc, ◌+◌, ◌<◌, ◌≤◌, ◌==◌, ◌&&◌, ◌||◌, cond, not, Bool, true, false, List, [], ◌∷◌, length, get_or, map, drop, refl, sym, ap, ◌∙◌, add-one, arith}
use Rattle.std.specs.Prelude.{Option, Some, None, nat_eq}
use Rattle.std.specs.HashSet.{HashSet, contains}
use Rattle.std.proofs.lemmas.Bool.Decides.{nat_tests}
use Rattle.std.proofs.lemmas.List.{drop_all}
use Rattle.std.proofs.Math.Bool.{or-false}
use Rattle.cp_lists.specs.Lists.{item_at}
use Rattle.cp_lists.proofs.Members.{drop_read}
use Rattle.cp_base.specs.declared.place.Place.{Place}
use Rattle.cp_sexpr.specs.Syntax.{Form}
use Rattle.cp_sexpr.specs.View.{view}
use Rattle.cp_sexpr.specs.declared.form.Form as program
use Rattle.cp_language.specs.Problems.{number_of}
use Rattle.cp_report.specs.Misfits.{place_before, number_misfits}
use Rattle.cp_report.specs.Labels.{is_among, is_number, stated_number, numbers_onto, numbers_in, stated_parent, stated_children, has_parent, has_child, has_parent_in, children_misfits}
use Rattle.cp_spelled.specs.FirstMisfit.{first_onto}
use Rattle.cp_scope.proofs.FirstOf.{first_onto-append}
use Rattle.cp_readback.specs.Families.{AreNumbers, is_same_child, names_child, child_from, AreChildren, parent_in}

cond_or : (a b : Bool) → cond a true b ≡ (a || b)
cond_or true b = refl
cond_or false b = refl

-- ---- parents

-- what is read of the parents that label forms state
pub parent-read : (fs : List Form) (n : ℕ) (o : Option ℕ) → item_at (map stated_parent fs) n ≡ Some o → o ≡ parent_in (item_at fs n)
parent-read [] n o e = absurd (cc)
parent-read (f ∷ fs) zero o e = cc
parent-read (f ∷ fs) (suc n) o e = parent-read fs n o e

pub parent-none : (fs : List Form) (n : ℕ) → item_at (map stated_parent fs) n ≡ None → None ≡ parent_in (item_at fs n)
parent-none [] n e = refl
parent-none (f ∷ fs) zero e = absurd (cc)
parent-none (f ∷ fs) (suc n) e = parent-none fs n e

pub parent-is : (i : ℕ) (o : Option Form) (m : Option ℕ) → m ≡ parent_in o → is_number i m ≡ has_parent i o
parent-is i None m e = ap (is_number i) e
parent-is i (Some f) m e = ap (is_number i) e

-- ---- numbers in a set

pub with_number : {S : Type 0} (ns : List ℕ) (k m : ℕ) (old new : HashSet ℕ S) → k ≡ m → AreNumbers ns old → ((n : ℕ) → contains nat_eq new n ≡ cond (k == n) true (contains nat_eq old n)) → AreNumbers (m ∷ ns) new
with_number ns k m old new same are put n =
    put n ∙ cond_or (k == n) (contains nat_eq old n) ∙ ap (λ x. (x == n) || contains nat_eq old n) same ∙ ap (λ b. (m == n) || b) (are n)

module _ (fs : List program.Form) (k : ℕ) (tree : Option (List Form)) (i : ℕ) where
  pub child-taken : (f : program.Form) → k < length fs → f ≡ get_or fs k f → {S : Type 0} (before : List ℕ) (set : HashSet ℕ S) → AreNumbers before set → (o p all : Option Place)
      → p ≡ first_onto o (number_misfits (λ n. has_parent_in tree i n && not (contains nat_eq set n)) (view f))
      → first_onto o (children_misfits tree i before (map view (drop k fs))) ≡ all
      → first_onto p (children_misfits tree i (number_of (view f) ∷ before) (map view (drop (k + 1) fs))) ≡ all
  child-taken f h e before set are o p all noted inv =
      let rest = children_misfits tree i (number_of (view f) ∷ before) (map view (drop (k + 1) fs)) in
      let among : ℕ → Bool = λ n. has_parent_in tree i n && not (is_among n before) in
      let stored : ℕ → Bool = λ n. has_parent_in tree i n && not (contains nat_eq set n) in
      let same : stored ≡ among = λ j n. has_parent_in tree i n && not (are n j) in
      ap (λ q. first_onto q rest) (noted ∙ ap (λ (t : ℕ → Bool). first_onto o (number_misfits t (view f))) same)
      ∙ sym (first_onto-append place_before o (number_misfits among (view f)) rest)
      ∙ sym (ap (λ gs. first_onto o (children_misfits tree i before (map view gs))) (drop_read fs k f h e)) ∙ inv

  pub children-done : length fs ≤ k → (before : List ℕ) (o all : Option Place) → first_onto o (children_misfits tree i before (map view (drop k fs))) ≡ all → o ≡ all
  children-done h before o all inv = sym (ap (λ gs. first_onto o (children_misfits tree i before (map view gs))) (drop_all k fs h)) ∙ inv

-- ---- the children of one label

child_on : (a c d s : Bool) → ((a && d) || cond (a && c) true s) ≡ ((a && (c || d)) || s)
child_on true true true s = refl
child_on true true false s = refl
child_on true false d s = refl
child_on false c d s = refl

module _ {S : Type 0} (fs : List program.Form) (k label : ℕ) (W : ℕ × ℕ → Bool) (old : HashSet (ℕ × ℕ) S) where
  numbers-read : (f : program.Form) → k < length fs → f ≡ get_or fs k f → numbers_in (map view (drop k fs)) ≡ numbers_onto (stated_number (view f)) (numbers_in (map view (drop (k + 1) fs)))
  numbers-read f h e = ap (λ gs. numbers_in (map view gs)) (drop_read fs k f h e)

  pub child-put : (f : program.Form) → k < length fs → f ≡ get_or fs k f → (c : ℕ) → Some c ≡ stated_number (view f) → (new : HashSet (ℕ × ℕ) S)
      → ((q : ℕ × ℕ) → contains is_same_child new q ≡ cond (is_same_child (label, c) q) true (contains is_same_child old q))
      → ((q : ℕ × ℕ) → (names_child label (numbers_in (map view (drop k fs))) q || contains is_same_child old q) ≡ W q)
      → (q : ℕ × ℕ) → (names_child label (numbers_in (map view (drop (k + 1) fs))) q || contains is_same_child new q) ≡ W q
  child-put f h e c is new put inv q =
      let rest = numbers_in (map view (drop (k + 1) fs)) in
      let all : numbers_in (map view (drop k fs)) ≡ c ∷ rest = numbers-read f h e ∙ ap (λ o. numbers_onto o rest) (sym is) in
      ap (λ b. names_child label rest q || b) (put q) ∙ child_on (label == q.0) (c == q.1) (is_among q.1 rest) (contains is_same_child old q)
      ∙ sym (ap (λ ns. names_child label ns q || contains is_same_child old q) all) ∙ inv q

  pub child-passed : (f : program.Form) → k < length fs → f ≡ get_or fs k f → None ≡ stated_number (view f)
      → ((q : ℕ × ℕ) → (names_child label (numbers_in (map view (drop k fs))) q || contains is_same_child old q) ≡ W q)
      → (q : ℕ × ℕ) → (names_child label (numbers_in (map view (drop (k + 1) fs))) q || contains is_same_child old q) ≡ W q
  child-passed f h e is inv q =
      let rest = numbers_in (map view (drop (k + 1) fs)) in
      let all : numbers_in (map view (drop k fs)) ≡ rest = numbers-read f h e ∙ ap (λ o. numbers_onto o rest) (sym is) in
      sym (ap (λ ns. names_child label ns q || contains is_same_child old q) all) ∙ inv q

  and_none : (a s : Bool) → s ≡ ((a && false) || s)
  and_none true s = refl
  and_none false s = refl

  pub children-all : length fs ≤ k → ((q : ℕ × ℕ) → (names_child label (numbers_in (map view (drop k fs))) q || contains is_same_child old q) ≡ W q) → (q : ℕ × ℕ) → contains is_same_child old q ≡ W q
  children-all h inv q =
      and_none (label == q.0) (contains is_same_child old q) ∙ sym (ap (λ gs. names_child label (numbers_in (map view gs)) q || contains is_same_child old q) (drop_all k fs h)) ∙ inv q

-- ---- the children of all labels

or_round : (x y s : Bool) → (x || (y || s)) ≡ ((y || x) || s)
or_round true true s = refl
or_round true false s = refl
or_round false true s = refl
or_round false false s = refl

module _ {S : Type 0} (fs : List program.Form) (k : ℕ) (W : ℕ × ℕ → Bool) (old : HashSet (ℕ × ℕ) S) where
  pub family-taken : (f : program.Form) → k < length fs → f ≡ get_or fs k f → (new : HashSet (ℕ × ℕ) S)
      → ((q : ℕ × ℕ) → contains is_same_child new q ≡ (names_child k (stated_children (view f)) q || contains is_same_child old q))
      → ((q : ℕ × ℕ) → (child_from k (map view (drop k fs)) q || contains is_same_child old q) ≡ W q)
      → (q : ℕ × ℕ) → (child_from (k + 1) (map view (drop (k + 1) fs)) q || contains is_same_child new q) ≡ W q
  family-taken f h e new put inv q =
      let rest : Bool = child_from (suc k) (map view (drop (k + 1) fs)) q in
      let next : child_from (k + 1) (map view (drop (k + 1) fs)) q ≡ rest = ap (λ n. child_from n (map view (drop (k + 1) fs)) q) (add-one k) in
      ap (λ b. b || contains is_same_child new q) next ∙ ap (λ b. rest || b) (put q)
      ∙ or_round rest (names_child k (stated_children (view f)) q) (contains is_same_child old q)
      ∙ sym (ap (λ gs. child_from k (map view gs) q || contains is_same_child old q) (drop_read fs k f h e)) ∙ inv q

  pub family-done : length fs ≤ k → ((q : ℕ × ℕ) → (child_from k (map view (drop k fs)) q || contains is_same_child old q) ≡ W q) → (q : ℕ × ℕ) → contains is_same_child old q ≡ W q
  family-done h inv q = sym (ap (λ gs. child_from k (map view gs) q || contains is_same_child old q) (drop_all k fs h)) ∙ inv q

suc_same : (k n : ℕ) → (suc k == suc n) ≡ (k == n)
suc_same k n = grind (arith, nat_tests)

not_zero : (k : ℕ) → (suc k == 0) ≡ false
not_zero k = grind (arith, nat_tests)

no_zero : (n : ℕ) → (0 == suc n) ≡ false
no_zero n = grind (arith, nat_tests)

child_shift : (k n i : ℕ) (fs : List Form) → child_from (suc k) fs (suc n, i) ≡ child_from k fs (n, i)
child_shift k n i [] = refl
child_shift k n i (f ∷ fs) =
    ap (λ b. (b && is_among i (stated_children f)) || child_from (suc (suc k)) fs (suc n, i)) (suc_same k n) ∙ ap (λ b. names_child k (stated_children f) (n, i) || b) (child_shift (suc k) n i fs)

child_none : (k i : ℕ) (fs : List Form) → child_from (suc k) fs (0, i) ≡ false
child_none k i [] = refl
child_none k i (f ∷ fs) = ap (λ b. (b && is_among i (stated_children f)) || child_from (suc (suc k)) fs (0, i)) (not_zero k) ∙ child_none (suc k) i fs

child_at : (fs : List Form) (n i : ℕ) → child_from 0 fs (n, i) ≡ has_child i (item_at fs n)
child_at [] n i = refl
child_at (f ∷ fs) zero i = ap (λ b. is_among i (stated_children f) || b) (child_none 0 i fs) ∙ or-false (is_among i (stated_children f))
child_at (f ∷ fs) (suc n) i = ap (λ b. (b && is_among i (stated_children f)) || child_from 1 fs (suc n, i)) (no_zero n) ∙ child_shift 0 n i fs ∙ child_at fs n i

pub children_at : {S : Type 0} (fs : List Form) (set : HashSet (ℕ × ℕ) S) → ((q : ℕ × ℕ) → contains is_same_child set q ≡ child_from 0 fs q) → AreChildren fs set
children_at fs set e n i = e (n, i) ∙ child_at fs n i
