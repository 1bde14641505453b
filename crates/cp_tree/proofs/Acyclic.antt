-- The edges of labels that point only where they may have no cycle.
use Rattle.std.proofs.Common.{◌≡◌, ◌⊎◌, inl, inr, ℕ, zero, suc, ◌<◌, List, length, take, Some, refl, sym, subst, ⊎_elim, lt_trans, le_refl, arith}
use Rattle.std.proofs.lemmas.List.{take_all}
use Rattle.cp_lists.specs.Lists.{item_at, Steps, one_step, more_steps}
use Rattle.cp_lists.proofs.Items.{item_of_take, take_of_item}
use Rattle.cp_lists.proofs.Reached.{steps_append}
use Rattle.cp_lists.proofs.Least.{less_or_same}
use Rattle.cp_tree.specs.Made.{LabelLink, IsEdge, to_child, to_seen, Reaches, MayPointTo}

-- Each label comes behind the one from which it was made, and points only where it may.
module _ (links : List LabelLink) (parents_first : (i j : ℕ) (w : LabelLink) → item_at links j ≡ Some w → w.parent ≡ Some i → i < j) (may : (i n : ℕ) (w : LabelLink) → item_at links i ≡ Some w → w.seen_in ≡ Some n → MayPointTo links i n) where
  -- An edge between labels before number m.
  abbrev Edge : ℕ → ℕ → ℕ → Type 0
  Edge m = IsEdge (take m links)

  -- Label p is the one from which label m was made.
  record IsParent (m p : ℕ) : Type 0 where
    way : LabelLink
    at : item_at links m ≡ Some way
    parent : way.parent ≡ Some p

  -- ---- where edges begin and end

  edge_from : (m i j : ℕ) → Edge m i j → i < m
  edge_from m i j (to_child {w = w} at e) = let t = item_of_take m links j w at in lt_trans (parents_first i j w t.1 e) t.0
  edge_from m i j (to_seen {w = w} at e) = (item_of_take m links i w at).0

  edge_to : (m i j : ℕ) → Edge m i j → j < m
  edge_to m i j (to_child {w = w} at e) = (item_of_take m links j w at).0
  edge_to m i j (to_seen {w = w} at e) = let t = item_of_take m links i w at in lt_trans (may i j w t.1 e).earlier t.0

  steps_from : (m i j : ℕ) → Steps (Edge m) i j → i < m
  steps_from m i j (one_step e) = edge_from m i j e
  steps_from m i j (more_steps {y = y} e rest) = edge_from m i y e

  steps_to : (m i j : ℕ) → Steps (Edge m) i j → j < m
  steps_to m i j (one_step e) = edge_to m i j e
  steps_to m i j (more_steps {y = y} e rest) = steps_to m y j rest

  -- ---- edges with one label more

  -- With label m there are edges from the label from which it was made, and to that in which it is seen.
  abbrev EdgeCases : ℕ → ℕ → ℕ → Type 0
  EdgeCases m i j = Edge m i j ⊎ (((j ≡ m) × IsParent m i) ⊎ ((i ≡ m) × MayPointTo links m j))

  child_cases : (m i j : ℕ) (w : LabelLink) → item_at links j ≡ Some w → w.parent ≡ Some i → (j < m) ⊎ (j ≡ m) → EdgeCases m i j
  child_cases m i j w at e (inl l) = inl (to_child (take_of_item m links j w l at) e)
  child_cases m i j w at e (inr q) = inr (inl (q, record { way = w; at = subst (λ (n : ℕ). item_at links n ≡ Some w) q at; parent = e }))

  seen_cases : (m i j : ℕ) (w : LabelLink) → item_at links i ≡ Some w → w.seen_in ≡ Some j → (i < m) ⊎ (i ≡ m) → EdgeCases m i j
  seen_cases m i j w at e (inl l) = inl (to_seen (take_of_item m links i w l at) e)
  seen_cases m i j w at e (inr q) = inr (inr (q, subst (λ (n : ℕ). MayPointTo links n j) q (may i j w at e)))

  edge_cases : (m i j : ℕ) → Edge (suc m) i j → EdgeCases m i j
  edge_cases m i j (to_child {w = w} at e) = let t = item_of_take (suc m) links j w at in child_cases m i j w t.1 e (less_or_same j m t.0)
  edge_cases m i j (to_seen {w = w} at e) = let t = item_of_take (suc m) links i w at in seen_cases m i j w t.1 e (less_or_same i m t.0)

  -- ---- paths with one label more

  -- From label x one comes to label m: it is m, or reaches the label from which m was made.
  record ReachesParent (m x : ℕ) : Type 0 where
    parent : ℕ
    is_parent : IsParent m parent
    reaches : Reaches (take m links) x parent

  -- From label m one comes to label y by that in which m is seen.
  record IsReachedSeen (m y : ℕ) : Type 0 where
    seen_in : ℕ
    may_point : MayPointTo links m seen_in
    reaches : Reaches (take m links) seen_in y

  abbrev Comes : ℕ → ℕ → Type 0
  Comes m x = (x ≡ m) ⊎ ReachesParent m x

  abbrev Goes : ℕ → ℕ → Type 0
  Goes m y = (y ≡ m) ⊎ IsReachedSeen m y

  -- A path goes without label m, or to it and from it.
  abbrev WayCases : ℕ → ℕ → ℕ → Type 0
  WayCases m x y = Steps (Edge m) x y ⊎ (Comes m x × Goes m y)

  last_case : (m x y : ℕ) → EdgeCases m x y → WayCases m x y
  last_case m x y (inl e) = inl (one_step e)
  last_case m x y (inr (inl p)) = inr (inr (record { parent = x; is_parent = p.1; reaches = inl refl }), inl p.0)
  last_case m x y (inr (inr s)) = inr (inl s.0, inr (record { seen_in = y; may_point = s.1; reaches = inl refl }))

  reaches_more : (m x y z : ℕ) → Edge m x y → Reaches (take m links) y z → Reaches (take m links) x z
  reaches_more m x y z e (inl q) = inr (subst (λ (n : ℕ). Steps (Edge m) x n) q (one_step e))
  reaches_more m x y z e (inr s) = inr (more_steps e s)

  comes_more : (m x y : ℕ) → Edge m x y → Comes m y → Comes m x
  comes_more m x y e (inl q) = absurd (let l : y < m = edge_to m x y e in omega (arith, q, l))
  comes_more m x y e (inr r) = inr (record { parent = r.parent; is_parent = r.is_parent; reaches = reaches_more m x y r.parent e r.reaches })

  next_case : (m x y z : ℕ) → EdgeCases m x y → WayCases m y z → WayCases m x z
  next_case m x y z (inl e) (inl s) = inl (more_steps e s)
  next_case m x y z (inl e) (inr c) = inr (comes_more m x y e c.0, c.1)
  next_case m x y z (inr (inl p)) (inl s) = absurd (let l : y < m = steps_from m y z s in let q = p.0 in omega (arith, q, l))
  next_case m x y z (inr (inl p)) (inr c) = inr (inr (record { parent = x; is_parent = p.1; reaches = inl refl }), c.1)
  next_case m x y z (inr (inr s)) (inl t) = inr (inl s.0, inr (record { seen_in = y; may_point = s.1; reaches = inr t }))
  next_case m x y z (inr (inr s)) (inr c) = inr (inl s.0, c.1)

  way_cases : (m x y : ℕ) → Steps (Edge (suc m)) x y → WayCases m x y
  way_cases m x y (one_step e) = last_case m x y (edge_cases m x y e)
  way_cases m x y (more_steps {y = z} e s) = next_case m x z y (edge_cases m x z e) (way_cases m z y s)

  -- ---- no cycle

  reaches_on : (m x y z : ℕ) → Reaches (take m links) x y → Reaches (take m links) y z → Reaches (take m links) x z
  reaches_on m x y z (inl p) r = subst (λ (n : ℕ). Reaches (take m links) n z) (sym p) r
  reaches_on m x y z (inr s) (inl q) = inr (subst (λ (n : ℕ). Steps (Edge m) x n) q s)
  reaches_on m x y z (inr s) (inr t) = inr (steps_append s t)

  returns_not : (m p n : ℕ) → IsParent m p → MayPointTo links m n → Reaches (take m links) n p → ⊥
  returns_not m p n parent may_point r = may_point.no_return parent.way p parent.at parent.parent r

  -- A path from label m to itself would lead from that in which it is seen to that from which it was made.
  not_to_last : (m n : ℕ) → MayPointTo links m n → WayCases m n m → ⊥
  not_to_last m n may_point (inl s) = let l : m < m = steps_to m n m s in omega (arith, l)
  not_to_last m n may_point (inr c) = ⊎_elim (λ (q : n ≡ m). let l : n < m = may_point.earlier in omega (arith, q, l)) (λ r. returns_not m r.parent n r.is_parent may_point r.reaches) c.0

  not_from_last : (m y z : ℕ) → z ≡ m → EdgeCases m z y → WayCases m y z → ⊥
  not_from_last m y z q (inl e) s = let l : z < m = edge_from m z y e in omega (arith, q, l)
  not_from_last m y z q (inr (inl p)) s = let l : z < m = parents_first z m p.1.way p.1.at p.1.parent in omega (arith, q, l)
  not_from_last m y z q (inr (inr t)) s = not_to_last m y t.1 (subst (WayCases m y) q s)

  last_apart : (m z : ℕ) → z ≡ m → Steps (Edge (suc m)) z z → ⊥
  last_apart m z q (one_step e) = (let l : (z < m) ⊎ (m < z) = one_apart z (edge_cases m z z e) in ⊎_elim (λ (a : z < m). omega (arith, q, a)) (λ (a : m < z). omega (arith, q, a)) l)
    where
      one_apart : (y : ℕ) → EdgeCases m y y → (y < m) ⊎ (m < y)
      one_apart y (inl e) = inl (edge_from m y y e)
      one_apart y (inr (inl p)) = inl (parents_first y m p.1.way p.1.at p.1.parent)
      one_apart y (inr (inr t)) = inl t.1.earlier
  last_apart m z q (more_steps {y = y} e s) = not_from_last m y z q (edge_cases m z y e) (way_cases m y z s)

  no_cycle_with : (m : ℕ) → ((x : ℕ) → Steps (Edge m) x x → ⊥) → (x : ℕ) → Steps (Edge (suc m)) x x → WayCases m x x → ⊥
  no_cycle_with m none x s (inl t) = none x t
  no_cycle_with m none x s (inr c) =
      ⊎_elim (λ (q : x ≡ m). last_apart m x q s)
      (λ r. ⊎_elim (λ (q : x ≡ m). last_apart m x q s) (λ t. returns_not m r.parent t.seen_in r.is_parent t.may_point (reaches_on m t.seen_in x r.parent t.reaches r.reaches)) c.1)
      c.0

  no_cycle_before : (m x : ℕ) → Steps (Edge m) x x → ⊥
  no_cycle_before zero x s = let l : x < 0 = steps_from 0 x x s in omega (arith, l)
  no_cycle_before (suc m) x s = no_cycle_with m (no_cycle_before m) x s (way_cases m x x s)

  pub no_cycle : (x : ℕ) → Steps (IsEdge links) x x → ⊥
  no_cycle x s = no_cycle_before (length links) x (subst (λ (ws : List LabelLink). Steps (IsEdge ws) x x) (sym (take_all (length links) links (le_refl (length links)))) s)
