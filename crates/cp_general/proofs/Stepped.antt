-- Steps of generalising, one after the other.
use Rattle.std.proofs.Common.{◌≡◌, ◌↔◌, ◌⊎◌, inl, inr, ℕ, zero, suc, ◌+◌, ◌-◌, ◌<◌, ◌≤◌, List, [], ◌∷◌, Bool, true, false, length, get_or, drop, sym, ap, ◌∙◌, subst, arith}
use Rattle.std.specs.Prelude.{Option, Some, None, IfNone}
use Rattle.std.specs.List.{remove}
use Rattle.cp_lists.specs.Lists.{IsIn}
use Rattle.cp_lists.proofs.Members.{drop_read, in_cases, none_left}
use Rattle.cp_model.specs.declared.node.Node.{Node}
use Rattle.cp_model.specs.declared.node.OrderPair.{OrderPair}
use Rattle.cp_model.specs.Skeleton.{Skeleton, Before}
use Rattle.cp_model.specs.Given.{listed}
use Rattle.cp_skel.specs.Ordered.{IsOrdered, ordered_by}
use Rattle.cp_derive.specs.Unrealised.{IsListedBefore}
use Rattle.cp_normal.specs.Findings.{IsAddedPair}
use Rattle.cp_general.specs.Fit.{IsFit}
use Rattle.cp_general.specs.Steps.{IsPairOfOrder, Weakens, IsLowerPair}
use Rattle.cp_general.specs.Generalisation.{DeletesNone, WeakensNone, StepsTo, deletes, drops, GeneralisesTo, last_step, next_step}
use Rattle.cp_general.specs.ListedPairs.{AreRisingPairs, ListsAdded, ListsOrder}
use Rattle.cp_general.specs.ProgramSteps.{NeverDeletes, NeverDrops, LeavesFit, WeakensFirst, ComesBySteps, IsReachedByWeakening}
use Rattle.cp_general.proofs.Alike.{assume_the_same, was_added, is_added, fit_alike}
use Rattle.cp_general.proofs.CoveringPairs.{covering_is_listed}
use Rattle.cp_general.proofs.Deleted.{deletes_none_still}
use Rattle.cp_general.proofs.Dropped.{fit_before}

-- ---- the step that deletes a strand

pub deletion_step : (d : ℕ) (k h g : Skeleton) → LeavesFit d k h → ((e : ℕ) → d < e → NeverDeletes e k) → g ≡ record h { assumptions = listed h } → StepsTo k g
deletion_step d k h g l higher same = subst (StepsTo k) (sym same) (deletes l.deletes l.fit (λ e x less. higher e less x))

-- From this number on no strand can be deleted.
abbrev pub NoneFrom : ℕ → Skeleton → Type 0
NoneFrom n k = (e : ℕ) → n ≤ e → NeverDeletes e k

pub none_beyond : (k : Skeleton) (n : ℕ) → n ≡ length k.strands → NoneFrom n k
none_beyond k n same e l h d f = let w = d.within in omega arith

pub one_below : (n m : ℕ) → 0 < n → n ≤ m → n - 1 < m
one_below n m l h = omega (arith, l, h)

pub above_one : (n e : ℕ) → 0 < n → n - 1 < e → n ≤ e
above_one n e l h = omega (arith, l, h)

removed_length : {A : Type 0} (xs : List A) (d : ℕ) → d < length xs → length (remove xs d) < length xs
removed_length [] d l = absurd (omega (arith, l))
removed_length (x ∷ xs) zero l = omega arith
removed_length (x ∷ xs) (suc d) l = let r = removed_length xs d (omega (arith, l)) in omega (arith, r)

pub deletion_fewer : (d : ℕ) (k h g : Skeleton) → LeavesFit d k h → g ≡ record h { assumptions = listed h } → length g.strands < length k.strands
deletion_fewer d k h g l same =
    let as_long : length g.strands ≡ length (remove k.strands d) = ap (λ (z : Skeleton). length z.strands) same ∙ ap length l.deletes.strands in
    let r = removed_length k.strands d l.deletes.within in
    omega (arith, r, as_long)

-- ---- the lowest pair

not_before_itself : (n : Node) → IsListedBefore n n → ⊥
not_before_itself n (inl l) = omega (arith, l)
not_before_itself n (inr l) = omega (arith, l.1)

not_both_before : (n m : Node) → IsListedBefore n m → IsListedBefore m n → ⊥
not_both_before n m (inl a) (inl b) = omega (arith, a, b)
not_both_before n m (inl a) (inr b) = omega (arith, a, b.0)
not_both_before n m (inr a) (inl b) = omega (arith, a.0, b)
not_both_before n m (inr a) (inr b) = omega (arith, a.1, b.1)

not_both_lower : (p q : OrderPair) → IsLowerPair p q → IsLowerPair q p → ⊥
not_both_lower p q (inl a) (inl b) = not_both_before p.earlier q.earlier a b
not_both_lower p q (inl a) (inr b) = not_before_itself p.earlier (subst (IsListedBefore p.earlier) b.0 a)
not_both_lower p q (inr a) (inl b) = not_before_itself q.earlier (subst (IsListedBefore q.earlier) a.0 b)
not_both_lower p q (inr a) (inr b) = not_both_before p.later q.later a.1 b.1

rises_from : (i : ℕ) (ps : List OrderPair) → AreRisingPairs ps → AreRisingPairs (drop i ps)
rises_from zero ps r = r
rises_from (suc i) [] r = r
rises_from (suc i) (p ∷ ps) r = rises_from i ps r.1

-- Each pair is passed, or left.
abbrev pub PassedOrLeft : Skeleton → List OrderPair → Type 0
PassedOrLeft k rest = (q : OrderPair) → IsIn q k.pairs → NeverDrops q k ⊎ IsIn q rest

pub all_left_yet : (k : Skeleton) (ps : List OrderPair) → ps ≡ k.pairs → PassedOrLeft k (drop 0 ps)
all_left_yet k ps same q m = inr (subst (IsIn q) (sym same) m)

module _ (k : Skeleton) (ps : List OrderPair) (i : ℕ) (p : OrderPair) (within : i < length ps) (at : p ≡ get_or ps i p) (so_far : PassedOrLeft k (drop i ps)) where
  left_is : drop i ps ≡ p ∷ drop (i + 1) ps
  left_is = drop_read ps i p within at

  pub passed_one : NeverDrops p k → PassedOrLeft k (drop (i + 1) ps)
  passed_one never q m = of (so_far q m)
    where
      next : (p ≡ q) ⊎ IsIn q (drop (i + 1) ps) → NeverDrops q k ⊎ IsIn q (drop (i + 1) ps)
      next (inl e) = inl (subst (λ r. NeverDrops r k) e never)
      next (inr j) = inr j

      of : NeverDrops q k ⊎ IsIn q (drop i ps) → NeverDrops q k ⊎ IsIn q (drop (i + 1) ps)
      of (inl n) = inl n
      of (inr j) = next (in_cases (subst (IsIn q) left_is j))

  pub none_lower : ps ≡ k.pairs → ListsOrder k k.pairs → (q : OrderPair) → IsLowerPair q p → NeverDrops q k
  none_lower same lists q lower h d f = of (so_far q ((lists.each q).1 d.covering.of_order))
    where
      rising : AreRisingPairs (p ∷ drop (i + 1) ps)
      rising = subst AreRisingPairs left_is (rises_from i ps (subst AreRisingPairs (sym same) lists.rising))

      behind : (p ≡ q) ⊎ IsIn q (drop (i + 1) ps) → ⊥
      behind (inl e) = not_both_lower q q (subst (IsLowerPair q) e lower) (subst (IsLowerPair q) e lower)
      behind (inr j) = not_both_lower q p lower (rising.0 q j)

      of : NeverDrops q k ⊎ IsIn q (drop i ps) → ⊥
      of (inl n) = n h d f
      of (inr j) = behind (in_cases (subst (IsIn q) left_is j))

pub all_passed : (k : Skeleton) (ps : List OrderPair) (i : ℕ) → length ps ≤ i → PassedOrLeft k (drop i ps) → WeakensNone k
all_passed k ps i l so_far p h d f = of (so_far p (covering_is_listed k p d.covering))
  where
    of : NeverDrops p k ⊎ IsIn p (drop i ps) → ⊥
    of (inl n) = n h d f
    of (inr j) = none_left ps i p l j

-- ---- a skeleton, and the same with other pairs that order alike

pair_alike : (k : Skeleton) (ps : List OrderPair) → ((x y : Node) → Before (ordered_by k ps) x y → Before k x y) → (q : OrderPair) → IsPairOfOrder (ordered_by k ps) q → IsPairOfOrder k q
pair_alike k ps back q h = record {
  pair = record { sent = h.pair.sent; received = h.pair.received; transmission = h.pair.transmission; reception = h.pair.reception; between_strands = h.pair.between_strands };
  ordered = back q.earlier q.later h.ordered;
}

drops_to : (k : Skeleton) (ps : List OrderPair) → ((x y : Node) → Before (ordered_by k ps) x y ↔ Before k x y) → (p : OrderPair) (h : Skeleton) → Weakens p (ordered_by k ps) h → Weakens p k h
drops_to k ps before p h d =
    let to : (q : OrderPair) → IsPairOfOrder (ordered_by k ps) q → IsPairOfOrder k q = pair_alike k ps (λ x y. (before x y).0) in
    let from : (q : OrderPair) → IsPairOfOrder k q → IsPairOfOrder (ordered_by k ps) q = pair_alike (ordered_by k ps) k.pairs (λ x y. (before x y).1) in
    record {
      covering = record { of_order = to p d.covering.of_order; none_between = λ n a b. d.covering.none_between n ((before p.earlier n).1 a) ((before n p.later).1 b) };
      not_own = d.not_own;
      not_added = λ a. d.not_added (record { entry = a.0.entry; listed = a.0.listed; from_origin = a.0.from_origin; received = a.0.received; reception = a.0.reception; carried = a.0.carried }, a.1);
      same = d.same;
      pairs = λ q. (λ m. let r = (d.pairs q).0 m in (to q r.0, r.1), λ h. (d.pairs q).1 (from q h.0, h.1));
      stated = d.stated;
    }

-- the same the other way: the skeleton has its own pairs in place of those
drops_from : (k : Skeleton) (ps : List OrderPair) → ((x y : Node) → Before (ordered_by k ps) x y ↔ Before k x y) → (p : OrderPair) (h : Skeleton) → Weakens p k h → Weakens p (ordered_by k ps) h
drops_from k ps before p h d = drops_to (ordered_by k ps) k.pairs (λ x y. ((before x y).1, (before x y).0)) p h d

-- the same pairs that unique values add
pub added_still : (k h : Skeleton) → h ≡ ordered_by k h.pairs → (added : List OrderPair) → ListsAdded k added → ListsAdded h added
added_still k h same added are p =
    subst (λ (z : Skeleton). IsIn p added ↔ IsAddedPair z p) (sym same) (
      λ m. is_added k k.variables h.pairs k.assumptions k.from_problem (assume_the_same k.assumptions) p ((are p).0 m),
      λ a. (are p).1 (was_added k k.variables h.pairs k.assumptions k.from_problem (assume_the_same k.assumptions) p a),
    )

-- ---- steps, one after the other

pub comes_first : (k h : Skeleton) → StepsTo k h → ComesBySteps k h
comes_first k h s = record { onward = λ g t. next_step s t; ends = λ m. last_step s m }

pub comes_next : (k h g : Skeleton) → ComesBySteps k h → StepsTo h g → ComesBySteps k g
comes_next k h g c s = record { onward = λ x t. c.onward x (next_step s t); ends = λ m. c.onward g (last_step s m) }

-- the first pair is dropped from the skeleton with all pairs of its order
pub way_begins : (k all h : Skeleton) → all ≡ ordered_by k all.pairs → ((x y : Node) → Before all x y ↔ Before k x y) → DeletesNone k → DeletesNone all → WeakensFirst all h → IsReachedByWeakening k h
way_begins k all h same before none still first =
    let order : (x y : Node) → Before (ordered_by k all.pairs) x y ↔ Before k x y = subst (λ (z : Skeleton). (x y : Node) → Before z x y ↔ Before k x y) same before in
    let dropped : Weakens first.pair (ordered_by k all.pairs) h = subst (λ (z : Skeleton). Weakens first.pair z h) same first.leaves.drops in
    record {
      comes =
          comes_first k h
          (drops none (drops_to k all.pairs order first.pair h dropped) first.leaves.fit
          (λ q g l d f. first.lower q l g (subst (λ (z : Skeleton). Weakens q z g) (sym same) (drops_from k all.pairs order q g d)) f));
      fit = first.leaves.fit;
      lists = first.leaves.lists;
      none = first.leaves.none still;
    }

pub none_dropped : (k all : Skeleton) → all ≡ ordered_by k all.pairs → ((x y : Node) → Before all x y ↔ Before k x y) → WeakensNone all → WeakensNone k
none_dropped k all same before none p g d f =
    let order : (x y : Node) → Before (ordered_by k all.pairs) x y ↔ Before k x y = subst (λ (z : Skeleton). (x y : Node) → Before z x y ↔ Before k x y) same before in
    none p g (subst (λ (z : Skeleton). Weakens p z g) (sym same) (drops_from k all.pairs order p g d)) f

pub way_goes_on : (k h g : Skeleton) → IsReachedByWeakening k h → WeakensFirst h g → IsReachedByWeakening k g
way_goes_on k h g w first = record {
  comes = comes_next k h g w.comes (drops w.none first.leaves.drops first.leaves.fit (λ q x l d f. first.lower q l x d f));
  fit = first.leaves.fit;
  lists = first.leaves.lists;
  none = first.leaves.none w.none;
}

pub way_ends : (k h : Skeleton) → IsReachedByWeakening k h → WeakensNone h → GeneralisesTo k h
way_ends k h w none = w.comes.ends (record { deletes_none = w.none; drops_none = none })

-- ---- where nothing can be deleted, or nothing at all

pub all_delete_none : (k all : Skeleton) → all ≡ ordered_by k all.pairs → ((x y : Node) → Before all x y ↔ Before k x y) → IsOrdered k → DeletesNone k → DeletesNone all
all_delete_none k all same before ordered none =
    let back : (x y : Node) → Before (ordered_by k all.pairs) x y → Before k x y = λ x y. (subst (λ (z : Skeleton). (x y : Node) → Before z x y ↔ Before k x y) same before x y).0 in
    subst DeletesNone (sym same) (deletes_none_still k all.pairs ordered back none)

pub all_fit : (k all : Skeleton) → all ≡ ordered_by k all.pairs → ((x y : Node) → Before all x y ↔ Before k x y) → ((n : Node) → Before k n n → ⊥) → IsFit k → IsFit all
all_fit k all same before no_cycle f =
    fit_alike k all (ap (λ (z : Skeleton). z.strands) same) (ap (λ (z : Skeleton). z.assumptions) same) (λ x y. (before x y).1) (λ n b. no_cycle n ((before n n).0 b)) f

pub unfit_drops_none : (k : Skeleton) (b : Bool) → ((n : Node) → Before k n n → ⊥) → (b ≡ true) ↔ IsFit k → b ≡ false → WeakensNone k
unfit_drops_none k b no_cycle h e p g d f = false_and_true e (h.1 (fit_before k p g no_cycle d f))
  where
    false_and_true : b ≡ false → b ≡ true → ⊥
    false_and_true x y = cc

pub if_none_then : {A : Type 0} (found : Option A) {P Q : Type 0} → IfNone found P → (P → Q) → IfNone found Q
if_none_then None h f = f h
if_none_then (Some x) h f = tt

pub then_goes_on : (k h g : Skeleton) → ComesBySteps k h → GeneralisesTo h g → GeneralisesTo k g
then_goes_on k h g c t = c.onward g t

pub then_ends : (k h : Skeleton) → ComesBySteps k h → DeletesNone h → WeakensNone h → GeneralisesTo k h
then_ends k h c d p = c.ends (record { deletes_none = d; drops_none = p })
