-- Questions that are asked under more and more patterns.
use Rattle.std.proofs.Common.{◌≡◌, ℕ, zero, suc, ◌<◌, ◌≤◌, List, [], ◌∷◌, length, Option, Some, None, Bool, true, false, ◌↔◌, ◌⊎◌, inl, inr, refl, sym, subst, ⊎_elim, arith}
use Rattle.cp_lists.specs.Lists.{item_at, IsIn}
use Rattle.cp_model.specs.Strand.{Protocol}
use Rattle.cp_model.specs.Tree.{Pattern}
use Rattle.cp_cohort.specs.declared.child.Child.{Child}
use Rattle.cp_cohort.specs.Cohort.{GuardedTest, AreFirstAdded, IsCohort}
use Rattle.cp_escape.specs.Escape.{IsFirstWith, in_front, further}
use Rattle.cp_expansion.specs.Expansion.{IsWidening, asked_under, AreWidened, has_most, none_widens, one_widens}
use Rattle.cp_expansion.specs.Widened.{GivesPattern, IsGiven}
use Rattle.cp_model.specs.Skeleton.{Skeleton}
use Rattle.cp_cohort.specs.declared.widening.Widening.{Widening}
use Rattle.cp_cohort.specs.Widening.{IsCohortUntil}
use Rattle.cp_expansion.proofs.ChildPatterns.{given_while_open}

pub first_with : {A : Type 0} {has : A → Type 0} (xs : List A) (place : ℕ) (x : A) → item_at xs place ≡ Some x → has x → ((i : ℕ) (y : A) → i < place → item_at xs i ≡ Some y → has y → ⊥) → IsFirstWith has xs x
first_with [] place x e h none = absurd (cc)
first_with {A} {has} (y ∷ ys) zero x e h none = let same : y ≡ x = cc in subst (λ z. IsFirstWith has (z ∷ ys) x) (sym same) (in_front h)
first_with (y ∷ ys) (suc place) x e h none = further (none 0 y (omega arith) refl) (first_with ys place x e h (λ i z below at has. none (suc i) z (omega (arith, below)) at has))

below_or_not : (n m : ℕ) → (n < m) ⊎ (m ≤ n)
below_or_not n zero = inr (omega arith)
below_or_not zero (suc m) = inl (omega arith)
below_or_not (suc n) (suc m) = ⊎_elim (λ l. inl (omega (arith, l))) (λ l. inr (omega (arith, l))) (below_or_not n m)

gives : (q : GuardedTest) (c : Child) → IsWidening q c → (p : Pattern) × GivesPattern q.skeleton c p
gives q c w = (w.pattern, record { strand = w.strand; added = w.added; widens = w.widens })

widening : (q : GuardedTest) (c : Child) (p : Pattern) → GivesPattern q.skeleton c p → IsWidening q c
widening q c p g = record { strand = g.strand; added = g.added; pattern = p; widens = g.widens }

-- Where the set may be widened if it is open, none of the children with an added strand gives a pattern that widens it.
pub widened_no_more : (protocol : Protocol) (q : GuardedTest) (children : List Child) (open_set : Bool) → (open_set ≡ true) ↔ (length q.patterns < 32) → (is : IsCohort protocol q children)
    → ((c : Child) (p : Pattern) → IsIn c is.added → (open_set ≡ true) × GivesPattern q.skeleton c p → ⊥) → AreWidened protocol q q children
widened_no_more protocol q children true few cohort none = none_widens (few.0 refl) cohort (λ c h w. none c (gives q c w).0 h (refl, (gives q c w).1))
widened_no_more protocol q children false few cohort none = has_most (⊎_elim (λ lt. let e : false ≡ true = few.1 lt in absurd (cc)) (λ l. l) (below_or_not (length q.patterns) 32)) cohort

pub widened_once_more : (protocol : Protocol) (q next last : GuardedTest) (before children : List Child) (place : ℕ) (p : Pattern) (g : IsGiven q.skeleton before place p) → length q.patterns < 32 → AreFirstAdded protocol q before
    → next ≡ asked_under q g.child p → AreWidened protocol next last children → AreWidened protocol q last children
unfolding widening
widened_once_more protocol q next last before children place p g few first same rest =
    one_widens few first (first_with before place g.child g.at (widening q g.child p g.gives_it) (λ i c below at w. g.first i c (gives q c w).0 below at (gives q c w).1)) (widening q g.child p g.gives_it)
    (subst (λ n. AreWidened protocol n last children) same rest)

-- ---- what is found

module _ (protocol : Protocol) (q : GuardedTest) (open_set : Bool) (few : (open_set ≡ true) ↔ (length q.patterns < 32)) (k : Skeleton) (same : k ≡ q.skeleton) (cs : List Child) (found : Option Widening)
    (is : IsCohortUntil (λ c p. (open_set ≡ true) × GivesPattern k c p) protocol q cs found) where
  pub found_none : found ≡ None → AreWidened protocol q q cs
  found_none none =
      let whole = subst (IsCohortUntil (λ c p. (open_set ≡ true) × GivesPattern k c p) protocol q cs) none is in
      widened_no_more protocol q cs open_set few whole.0 (subst (λ (s : Skeleton). (c : Child) (p : Pattern) → IsIn c whole.0.added → (open_set ≡ true) × GivesPattern s c p → ⊥) same whole.1)

  pub found_one : (w : Widening) → found ≡ Some w → (length q.patterns < 32) × (AreFirstAdded protocol q cs) × IsGiven q.skeleton cs w.child w.pattern
  found_one w some =
      let first = subst (IsCohortUntil (λ c p. (open_set ≡ true) × GivesPattern k c p) protocol q cs) some is in
      let given = given_while_open open_set k q.skeleton cs w.child w.pattern same first.1 in
      (few.0 given.0, first.0, given.1)
