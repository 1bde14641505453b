-- Which labels are reached where one more comes behind them.
use Rattle.std.proofs.Common.{◌≡◌, ◌⊎◌, ◌↔◌, inl, inr, ◌∙◌, ℕ, ◌+◌, ◌<◌, List, [], ◌∷◌, ◌++◌, length, map, true, false, Some, None, refl, sym, ap, subst, arith}
use Rattle.std.proofs.lemmas.Bool.{cases_Bool, cases_eq}
use Rattle.std.proofs.lemmas.List.{length-append}
use Rattle.cp_lists.specs.Lists.{item_at, Steps, one_step, more_steps}
use Rattle.cp_lists.proofs.Items.{item_below, item_last, item_still, item_of_push, map_of_item, item_of_map}
use Rattle.cp_lists.proofs.Reached.{steps_append, steps_alike}
use Rattle.cp_tree.specs.Made.{LabelLink, IsEdge, to_child, to_seen, Reaches, MayPointTo}
use Rattle.cp_search.specs.declared.made.Made.{Made}
use Rattle.cp_shapes.specs.Shapes.{FindsLeast}
use Rattle.cp_search.specs.MadeLabels.{made_link, AreFound}
use Rattle.cp_search.specs.Reachability.{ReachesLabel}

-- ---- ways

reaches_on : (links : List LabelLink) (i j k : ℕ) → IsEdge links i j → Reaches links j k → Reaches links i k
reaches_on links i j k e (inl same) = inr (one_step (subst (IsEdge links i) same e))
reaches_on links i j k e (inr steps) = inr (more_steps e steps)

then_reaches : (links : List LabelLink) (i j k : ℕ) → Reaches links i j → Reaches links j k → Reaches links i k
then_reaches links i j k (inl same) rest = subst (λ (n : ℕ). Reaches links n k) (sym same) rest
then_reaches links i j k (inr steps) (inl same) = inr (subst (Steps (IsEdge links) i) same steps)
then_reaches links i j k (inr steps) (inr rest) = inr (steps_append steps rest)

-- ---- a label is seen in one before it

module _ (ms : List Made) (found : AreFound ms) where
  seen_earlier_of : (i j : ℕ) (m : Made) → item_at ms i ≡ Some m → m.seen_in ≡ Some j → (m.dead ≡ true) ⊎ (m.dead ≡ false) → j < i
  seen_earlier_of i j m at e (inl dead) = let none : m.seen_in ≡ None = (found.each i m at).dead_unseen dead in absurd (cc)
  seen_earlier_of i j m at e (inr lives) = (subst (FindsLeast (MayPointTo (map made_link ms) i)) e ((found.each i m at).seen lives)).holds.earlier

  pub seen_earlier : (i j : ℕ) (m : Made) → item_at ms i ≡ Some m → m.seen_in ≡ Some j → j < i
  seen_earlier i j m at e = seen_earlier_of i j m at e (cases_Bool m.dead)

-- ---- one label more

module _ (ms : List Made) (m : Made) (found : AreFound (ms ++ m ∷ [])) where
  abbrev all : List Made
  all = ms ++ m ∷ []

  pub one_longer : length all ≡ length ms + 1
  one_longer = length-append ms (m ∷ [])

  -- Its parent and the one in which it is seen come before it.
  pub parent_below : (p : ℕ) → m.parent ≡ Some p → p < length ms
  parent_below p e = found.later (length ms) p m (item_last ms m) e

  pub seen_below : (s : ℕ) → m.seen_in ≡ Some s → s < length ms
  seen_below s e = seen_earlier all found (length ms) s m (item_last ms m) e

  -- Label n is the new one, or reaches its parent; label n is the new one, or is reached from that in which it is seen.
  abbrev pub LeadsToNew : ℕ → Type 0
  LeadsToNew n = ((p : ℕ) × (m.parent ≡ Some p) × ReachesLabel ms n p) ⊎ (length ms ≡ n)

  abbrev pub FollowsNew : ℕ → Type 0
  FollowsNew n = ((s : ℕ) × (m.seen_in ≡ Some s) × ReachesLabel ms s n) ⊎ (length ms ≡ n)

  -- Label n reached label k, or reaches it by way of the new one.
  abbrev pub ReachesNow : ℕ → ℕ → Type 0
  ReachesNow n k = ReachesLabel ms n k ⊎ (LeadsToNew n × FollowsNew k)

  -- An edge was there, or leads to the new label or from it.
  abbrev IsOldEdge : ℕ → ℕ → Type 0
  IsOldEdge i j = (i < length ms) × (j < length ms) × IsEdge (map made_link ms) i j

  abbrev IsEdgeNow : ℕ → ℕ → Type 0
  IsEdgeNow i j = IsOldEdge i j ⊎ (((m.parent ≡ Some i) × (length ms ≡ j)) ⊎ ((length ms ≡ i) × (m.seen_in ≡ Some j)))

  child_now : (i j : ℕ) (x : Made) → x.parent ≡ Some i → (item_at ms j ≡ Some x) ⊎ ((j ≡ length ms) × (m ≡ x)) → IsEdgeNow i j
  child_now i j x from (inl at) =
      let below : j < length ms = item_below ms j x at in
      let earlier : i < j = found.later j i x (item_still ms (m ∷ []) j x at) from in
      inl (omega arith, below, to_child {w = made_link x} (map_of_item made_link ms j x at) from)
  child_now i j x from (inr last) = inr (inl (ap (λ (y : Made). y.parent) last.1 ∙ from, sym last.0))

  seen_now : (i j : ℕ) (x : Made) → x.seen_in ≡ Some j → (item_at ms i ≡ Some x) ⊎ ((i ≡ length ms) × (m ≡ x)) → IsEdgeNow i j
  seen_now i j x seen (inl at) =
      let below : i < length ms = item_below ms i x at in
      let earlier : j < i = seen_earlier all found i j x (item_still ms (m ∷ []) i x at) seen in
      inl (below, omega arith, to_seen {w = made_link x} (map_of_item made_link ms i x at) seen)
  seen_now i j x seen (inr last) = inr (inr (sym last.0, ap (λ (y : Made). y.seen_in) last.1 ∙ seen))

  edge_now : (i j : ℕ) → IsEdge (map made_link all) i j → IsEdgeNow i j
  edge_now i j (to_child {w = w} at parent) =
      let x = item_of_map made_link all j w at in
      child_now i j x.0 (ap (λ (v : LabelLink). v.parent) x.2 ∙ parent) (item_of_push ms m j x.0 x.1)
  edge_now i j (to_seen {w = w} at seen) =
      let x = item_of_map made_link all i w at in
      seen_now i j x.0 (ap (λ (v : LabelLink). v.seen_in) x.2 ∙ seen) (item_of_push ms m i x.0 x.1)

  -- ---- each way is one of these

  follows_new : (j k : ℕ) → length ms ≡ j → ReachesNow j k → FollowsNew k
  follows_new j k new (inl old) = let below : j < length ms = old.0 in absurd (omega (arith, new, below))
  follows_new j k new (inr through) = through.1

  follows_seen : (j k : ℕ) → m.seen_in ≡ Some j → ReachesNow j k → FollowsNew k
  follows_seen j k seen (inl old) = inl (j, seen, old)
  follows_seen j k seen (inr through) = through.1

  leads_on : (i j : ℕ) → IsOldEdge i j → LeadsToNew j → LeadsToNew i
  leads_on i j e (inl h) = inl (h.0, h.1, (e.0, h.2.1, reaches_on (map made_link ms) i j h.0 e.2 h.2.2))
  leads_on i j e (inr new) = let below : j < length ms = e.1 in absurd (omega (arith, new, below))

  edge_then : (i j k : ℕ) → IsEdgeNow i j → ReachesNow j k → ReachesNow i k
  edge_then i j k (inl e) (inl old) = inl (e.0, old.1, reaches_on (map made_link ms) i j k e.2 old.2)
  edge_then i j k (inl e) (inr through) = inr (leads_on i j e through.0, through.1)
  edge_then i j k (inr (inl own)) rest =
      let below : i < length ms = parent_below i own.0 in
      inr (inl (i, own.0, (below, below, inl refl)), follows_new j k own.1 rest)
  edge_then i j k (inr (inr own)) rest = inr (inr own.0, follows_seen j k own.1 rest)

  itself_of : (k : ℕ) → k < length all → (k ≡ length ms) ⊎ (k ≡ length ms → ⊥) → ReachesNow k k
  itself_of k l (inl new) = inr (inr (sym new), inr (sym new))
  itself_of k l (inr old) = let n : length all ≡ length ms + 1 = one_longer in let below : k < length ms = omega (arith, l, n, old) in inl (below, below, inl refl)

  itself : (k : ℕ) → k < length all → ReachesNow k k
  itself k l = itself_of k l (cases_eq k (length ms))

  steps_now : {i k : ℕ} → k < length all → Steps (IsEdge (map made_link all)) i k → ReachesNow i k
  steps_now {i} {k} l (one_step e) = edge_then i k k (edge_now i k e) (itself k l)
  steps_now {i} {k} l (more_steps {y = y} e steps) = edge_then i y k (edge_now i y e) (steps_now l steps)

  reaches_now : (n k : ℕ) → k < length all → Reaches (map made_link all) n k → ReachesNow n k
  reaches_now n k l (inl same) = subst (λ (i : ℕ). ReachesNow i k) (sym same) (itself k l)
  reaches_now n k l (inr steps) = steps_now l steps

  -- ---- each of these is a way

  edge_still : (i j : ℕ) → IsEdge (map made_link ms) i j → IsEdge (map made_link all) i j
  edge_still i j (to_child {w = w} at parent) =
      let x = item_of_map made_link ms j w at in
      to_child {w = w} (map_of_item made_link all j x.0 (item_still ms (m ∷ []) j x.0 x.1) ∙ ap Some x.2) parent
  edge_still i j (to_seen {w = w} at seen) =
      let x = item_of_map made_link ms i w at in
      to_seen {w = w} (map_of_item made_link all i x.0 (item_still ms (m ∷ []) i x.0 x.1) ∙ ap Some x.2) seen

  still_reaches : (n k : ℕ) → Reaches (map made_link ms) n k → Reaches (map made_link all) n k
  still_reaches n k (inl same) = inl same
  still_reaches n k (inr steps) = inr (steps_alike edge_still steps)

  own_link : item_at (map made_link all) (length ms) ≡ Some (made_link m)
  own_link = map_of_item made_link all (length ms) m (item_last ms m)

  to_new : (n : ℕ) → LeadsToNew n → (n < length all) × Reaches (map made_link all) n (length ms)
  to_new n (inl h) =
      let below : n < length ms = h.2.0 in
      let longer : length all ≡ length ms + 1 = one_longer in
      (omega (arith, below, longer), then_reaches (map made_link all) n h.0 (length ms) (still_reaches n h.0 h.2.2) (inr (one_step (to_child {w = made_link m} own_link h.1))))
  to_new n (inr new) = let longer : length all ≡ length ms + 1 = one_longer in (omega (arith, new, longer), inl (sym new))

  from_new : (k : ℕ) → FollowsNew k → (k < length all) × Reaches (map made_link all) (length ms) k
  from_new k (inl h) =
      let below : k < length ms = h.2.1 in
      let longer : length all ≡ length ms + 1 = one_longer in
      (omega (arith, below, longer), reaches_on (map made_link all) (length ms) h.0 k (to_seen {w = made_link m} own_link h.1) (still_reaches h.0 k h.2.2))
  from_new k (inr new) = let longer : length all ≡ length ms + 1 = one_longer in (omega (arith, new, longer), inl new)

  reached_by : (n k : ℕ) → ReachesNow n k → ReachesLabel all n k
  reached_by n k (inl old) =
      let first : n < length ms = old.0 in
      let second : k < length ms = old.1 in
      let longer : length all ≡ length ms + 1 = one_longer in
      (omega (arith, first, longer), omega (arith, second, longer), still_reaches n k old.2)
  reached_by n k (inr through) =
      let front = to_new n through.0 in
      let back = from_new k through.1 in
      (front.0, back.0, then_reaches (map made_link all) n (length ms) k front.1 back.1)

  -- Of the labels with the new one, one reaches another exactly if it did, or if the way leads through the new one.
  pub one_more_reached : (n k : ℕ) → ReachesNow n k ↔ ReachesLabel all n k
  one_more_reached n k = (reached_by n k, λ h. reaches_now n k h.1 h.2)
