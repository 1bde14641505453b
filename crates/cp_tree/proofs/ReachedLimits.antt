-- A limit is the outcome of a tree only where it was reached.
use Rattle.std.proofs.Common.{◌≡◌, ◌⊎◌, ℕ, zero, suc, ◌+◌, ◌<◌, ◌≤◌, List, [], ◌∷◌, map, take, Option, Some, None, refl, ⊎_elim, arith}
use Rattle.cp_lists.specs.Lists.{item_at, IsIn}
use Rattle.cp_lists.proofs.Items.{place_of}
use Rattle.cp_model.specs.Strand.{Protocol}
use Rattle.cp_model.specs.declared.variable.Declaration.{Declaration}
use Rattle.cp_model.specs.Derivable.{IsUnrealised}
use Rattle.cp_model.specs.Tree.{Label, Tree, is_expanded, expanded_count, IsOpen, ReachedSteps, ReachedStrands}
use Rattle.cp_model.specs.declared.tree.Mark.{Mark}
use Rattle.cp_model.specs.declared.tree.Mark.TheVariants.{LimitSteps as limit_steps, LimitStrands as limit_strands}
use Rattle.cp_model.specs.declared.tree.Limits.{Limits}
use Rattle.cp_roots.specs.declared.root.Root.{Root}
use Rattle.cp_tree.specs.Made.{Made, link_of, LabelLink}
use Rattle.cp_tree.specs.Searched.{AreResolved, all_settled, then_settled, IsMarkedAmong, IsMarked, IsTreeFrom}
use Rattle.cp_tree.proofs.ByRule.{becomes}
use Rattle.cp_tree.proofs.Cases.{Becomes, is_dead, is_seen, is_realised, is_generalised, above_bound, at_limit, is_tested}
use Rattle.cp_tree.proofs.MarksSay.{steps_says, strands_says}
use Rattle.cp_tree.proofs.SoundLabels.{made, settled_here, becomes_here}

module _ (protocol : Protocol) (limits : Limits) (links : List LabelLink) (marks : ℕ → Option Mark → Type 0) where
  -- A label is expanded only where fewer were than the step limit says.
  counts_within : (i before : ℕ) (m : Made) (l : Label) (gives : List Made) → Becomes protocol limits links marks i before m l gives → before ≤ limits.steps → before + is_expanded l.test ≤ limits.steps
  counts_within i before m l gives (is_dead d) b = omega (arith, b)
  counts_within i before m l gives (is_seen d u s) b = omega (arith, b)
  counts_within i before m l gives (is_realised d n a y s) b = omega (arith, b)
  counts_within i before m l gives (is_generalised d n a w) b = omega (arith, b)
  counts_within i before m l gives (above_bound d n u r c) b = omega (arith, b)
  counts_within i before m l gives (at_limit d n u r c e) b = omega (arith, b)
  counts_within i before m l gives (is_tested d n u r c x y s) b = omega (arith, x)

  -- So no more are.
  pub all_within : (i before : ℕ) (so : List Made) (labels : List Label) (given : List Made) → AreResolved protocol limits links marks i before so labels given → before ≤ limits.steps → before + expanded_count labels ≤ limits.steps
  all_within i before so labels given all_settled b = omega (arith, b)
  all_within i before so labels given (then_settled {m = m} {l = l} {made = ms} {labels = ls} {from_this = fs} {from_others = gs} h s) b =
      let r = all_within (suc i) (before + is_expanded l.test) ms ls gs s (counts_within i before m l fs (becomes protocol limits links marks i before m l fs h) b) in
      omega (arith, r)

  -- ---- a label that was expanded

  counted_before : (i before : ℕ) (m : Made) (l : Label) (gives : List Made) → Becomes protocol limits links marks i before m l gives → (l.test ≡ None → ⊥) → before < limits.steps
  counted_before i before m l gives (is_dead d) t = absurd (t refl)
  counted_before i before m l gives (is_seen d u s) t = absurd (t refl)
  counted_before i before m l gives (is_realised d n a y s) t = absurd (t refl)
  counted_before i before m l gives (is_generalised d n a w) t = absurd (t refl)
  counted_before i before m l gives (above_bound d n u r c) t = absurd (t refl)
  counted_before i before m l gives (at_limit d n u r c e) t = absurd (t refl)
  counted_before i before m l gives (is_tested d n u r c x y s) t = x

-- Among the first labels no more are expanded than among more.
more_counted : (n m : ℕ) (labels : List Label) → n ≤ m → expanded_count (take n labels) ≤ expanded_count (take m labels)
more_counted zero m labels l = omega arith
more_counted (suc n) zero labels l = absurd (omega (arith, l))
more_counted (suc n) (suc m) [] l = omega arith
more_counted (suc n) (suc m) (x ∷ xs) l = let r = more_counted n m xs (omega (arith, l)) in omega (arith, r)

before_or_not : (i j : ℕ) → (i < j) ⊎ (j ≤ i)
before_or_not i j = grind arith

-- Among the first labels no more are expanded than among all.
first_count : (n : ℕ) (labels : List Label) → expanded_count (take n labels) ≤ expanded_count labels
first_count zero labels = omega arith
first_count (suc n) [] = omega arith
first_count (suc n) (l ∷ ls) = let r = first_count n ls in omega (arith, r)

module _ (protocol : Protocol) (variables : List Declaration) (limits : Limits) (roots : List Root) (tree : Tree) (from : IsTreeFrom protocol variables limits roots tree) where
  pub steps_within : expanded_count tree.labels ≤ limits.steps
  steps_within =
      let none : 0 ≤ limits.steps = omega arith in
      let r = all_within protocol limits (map link_of tree.labels) (IsMarkedAmong from.candidates) 0 0 (made protocol variables limits roots tree from) tree.labels from.children from.settled none in
      omega (arith, r)

  abbrev MadeHere : List Made
  MadeHere = made protocol variables limits roots tree from

  abbrev links : List LabelLink
  links = map link_of tree.labels

  -- A label that was expanded comes before each at the step limit.
  pub expanded_first : (i j : ℕ) (l m : Label) → item_at tree.labels i ≡ Some l → item_at tree.labels j ≡ Some m → (l.test ≡ None → ⊥) → m.mark ≡ Some limit_steps → i < j
  expanded_first i j l m at au tested e =
      let s = settled_here protocol variables limits roots tree from i l at in
      let t = settled_here protocol variables limits roots tree from j m au in
      let r = steps_says protocol limits links from.candidates j t.expanded_before t.so m t.gives (becomes_here protocol variables limits roots tree from j m t) e in
      let fewer : s.expanded_before < limits.steps = counted_before protocol limits links (IsMarkedAmong from.candidates) i s.expanded_before s.so l s.gives (becomes_here protocol variables limits roots tree from i l s) tested in
      let all : t.expanded_before ≡ limits.steps = r.reached in
      let a : s.expanded_before ≡ 0 + expanded_count (take i tree.labels) = s.counted in
      let b : t.expanded_before ≡ 0 + expanded_count (take j tree.labels) = t.counted in
      ⊎_elim (λ (n : i < j). n) (λ (n : j ≤ i). absurd (let c = more_counted j i tree.labels n in omega (arith, fewer, all, a, b, c))) (before_or_not i j)

  open_at_steps : (l : Label) → IsIn l tree.labels → l.mark ≡ Some limit_steps → IsUnrealised l.skeleton → IsOpen tree l
  open_at_steps l listed mark u = record { listed = listed; unrealised = u; not_seen = λ n e. cc; not_dead = λ e. cc }

  open_at_strands : (l : Label) → IsIn l tree.labels → l.mark ≡ Some limit_strands → IsUnrealised l.skeleton → IsOpen tree l
  open_at_strands l listed mark u = record { listed = listed; unrealised = u; not_seen = λ n e. cc; not_dead = λ e. cc }

  -- Where a label is at the step limit, as many were expanded as that says.
  pub count_reached : (i : ℕ) (l : Label) → item_at tree.labels i ≡ Some l → l.mark ≡ Some limit_steps → expanded_count tree.labels ≡ limits.steps
  count_reached i l at e =
      let s = settled_here protocol variables limits roots tree from i l at in
      let r = steps_says protocol limits links from.candidates i s.expanded_before s.so l s.gives (becomes_here protocol variables limits roots tree from i l s) e in
      let most : expanded_count tree.labels ≤ limits.steps = steps_within in
      let first : expanded_count (take i tree.labels) ≤ expanded_count tree.labels = first_count i tree.labels in
      let count : s.expanded_before ≡ 0 + expanded_count (take i tree.labels) = s.counted in
      let reached : s.expanded_before ≡ limits.steps = r.reached in
      omega (arith, most, first, count, reached)

  pub reached_steps : IsMarked tree.labels limit_steps → ReachedSteps limits tree
  reached_steps h =
      let p = place_of h.1 in
      let s = settled_here protocol variables limits roots tree from p.0 h.0 p.1 in
      let r = steps_says protocol limits links from.candidates p.0 s.expanded_before s.so h.0 s.gives (becomes_here protocol variables limits roots tree from p.0 h.0 s) h.2 in
      record {
        expanded = count_reached p.0 h.0 p.1 h.2;
        label = h.0;
        left = open_at_steps h.0 h.1 h.2 r.unrealised;
        unexpanded = r.unexpanded;
        within = r.within;
      }

  pub reached_strands : (IsMarked tree.labels limit_steps → ⊥) → IsMarked tree.labels limit_strands → ReachedStrands limits tree
  reached_strands none h =
      let p = place_of h.1 in
      let s = settled_here protocol variables limits roots tree from p.0 h.0 p.1 in
      let r = strands_says protocol limits (map link_of tree.labels) from.candidates p.0 s.expanded_before s.so h.0 s.gives (becomes_here protocol variables limits roots tree from p.0 h.0 s) h.2 in
      record {
        no_step_limit = λ l listed e. none (l, listed, e);
        label = h.0;
        left = open_at_strands h.0 h.1 h.2 r.0;
        above = r.1;
      }
