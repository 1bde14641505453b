-- The edges of a tree have no cycle.
use Rattle.std.proofs.Common.{◌≡◌, ◌⊎◌, inl, inr, ℕ, ◌<◌, List, [], map, Option, Some, None, ap, ◌∙◌, subst, ⊎_elim}
use Rattle.cp_lists.specs.Lists.{item_at, IsIn, Steps, one_step, more_steps}
use Rattle.cp_lists.proofs.Items.{map_of_item, item_of_map, there_or_none}
use Rattle.cp_lists.proofs.Members.{in_cases, not_in_none}
use Rattle.cp_model.specs.Strand.{Protocol}
use Rattle.cp_model.specs.declared.variable.Declaration.{Declaration}
use Rattle.cp_model.specs.Tree.{Label, Tree}
use Rattle.cp_model.specs.declared.tree.Mark.{Mark}
use Rattle.cp_model.specs.declared.tree.Mark.TheVariants.{Shape as shape, Dead as dead, Seen as seen, InstanceOf as instance_of, LimitSteps as limit_steps, LimitStrands as limit_strands}
use Rattle.cp_model.specs.declared.tree.Limits.{Limits}
use Rattle.cp_theory.specs.Lawful.{IsEdgeOf}
use Rattle.cp_roots.specs.declared.root.Root.{Root}
use Rattle.cp_tree.specs.Candidates.{IsCandidate}
use Rattle.cp_tree.specs.Made.{LabelLink, link_of, seen_in_of, IsEdge, to_seen, MayPointTo}
use Rattle.cp_tree.specs.Searched.{IsTreeFrom}
use Rattle.cp_tree.specs.Edges.{edge_by, edges_from, edges}
use Rattle.cp_tree.proofs.Acyclic.{no_cycle}
use Rattle.cp_tree.proofs.Picked.{item_of}
use Rattle.cp_tree.proofs.MarksSay.{instance_says, seen_says, candidate_shape}
use Rattle.cp_tree.proofs.SoundLabels.{settled_here, becomes_here}
use Rattle.cp_tree.proofs.MadeChildren.{edge_to_child}

-- ---- what an edge is

abbrev EdgeKinds : Option Mark → List ℕ → ℕ → Type 0
EdgeKinds mark ns j = IsIn j ns ⊎ ((mark ≡ Some (seen j)) ⊎ (mark ≡ Some (instance_of j)))

edge_kinds : (mark : Option Mark) (ns : List ℕ) (j : ℕ) → IsIn j (edge_by mark ns) → EdgeKinds mark ns j
edge_kinds None ns j p = inl p
edge_kinds (Some shape) ns j p = inl p
edge_kinds (Some dead) ns j p = inl p
edge_kinds (Some (seen n)) ns j p = ⊎_elim (λ (e : n ≡ j). inr (inl (ap (λ (a : ℕ). Some (seen a)) e))) (λ q. inl q) (in_cases p)
edge_kinds (Some (instance_of n)) ns j p = ⊎_elim (λ (e : n ≡ j). inr (inr (ap (λ (a : ℕ). Some (instance_of a)) e))) (λ q. inl q) (in_cases p)
edge_kinds (Some limit_steps) ns j p = inl p
edge_kinds (Some limit_strands) ns j p = inl p

record IsEdgeFrom (labels : List Label) (i j : ℕ) : Type 0 where
  label : Label
  at : item_at labels i ≡ Some label
  kind : EdgeKinds label.mark label.children j

edge_from : (labels : List Label) (i j : ℕ) → IsEdgeOf (edges labels) i j → IsEdgeFrom labels i j
edge_from labels i j p =
    ⊎_elim
    (λ (h : (l : Label) × (item_at labels i ≡ Some l)).
    record { label = h.0; at = h.1; kind = edge_kinds h.0.mark h.0.children j (subst (λ (o : Option Label). IsIn j (edges_from o)) h.1 p) })
    (λ (e : item_at labels i ≡ None). absurd (not_in_none (subst (λ (o : Option Label). IsIn j (edges_from o)) e p)))
    (there_or_none (item_at labels i))

-- ---- links

seen_mark : (mark : Option Mark) (n : ℕ) → seen_in_of mark ≡ Some n → mark ≡ Some (seen n)
seen_mark None n e = absurd (cc)
seen_mark (Some shape) n e = absurd (cc)
seen_mark (Some dead) n e = absurd (cc)
seen_mark (Some (seen m)) n e = let same : m ≡ n = cc in ap (λ (a : ℕ). Some (seen a)) same
seen_mark (Some (instance_of m)) n e = absurd (cc)
seen_mark (Some limit_steps) n e = absurd (cc)
seen_mark (Some limit_strands) n e = absurd (cc)

first_edge : {step : ℕ → ℕ → Type 0} (i j : ℕ) → Steps step i j → (k : ℕ) × step i k
first_edge i j (one_step e) = (j, e)
first_edge i j (more_steps {y = k} e s) = (k, e)

module _ (protocol : Protocol) (variables : List Declaration) (limits : Limits) (roots : List Root) (tree : Tree) (from : IsTreeFrom protocol variables limits roots tree) where
  abbrev links : List LabelLink
  links = map link_of tree.labels

  pub parents_before : (i j : ℕ) (w : LabelLink) → item_at links j ≡ Some w → w.parent ≡ Some i → i < j
  parents_before i j w at e =
      let l = item_of_map link_of tree.labels j w at in
      from.parents_first i j l.0 l.1 (ap (λ (v : LabelLink). v.parent) l.2 ∙ e)

  pub seen_may : (i n : ℕ) (l : Label) → item_at tree.labels i ≡ Some l → l.mark ≡ Some (seen n) → MayPointTo links i n
  seen_may i n l at e =
      let s = settled_here protocol variables limits roots tree from i l at in
      seen_says protocol limits links from.candidates i s.expanded_before s.so l s.gives n (becomes_here protocol variables limits roots tree from i l s) e

  points_where_it_may : (i n : ℕ) (w : LabelLink) → item_at links i ≡ Some w → w.seen_in ≡ Some n → MayPointTo links i n
  points_where_it_may i n w at e =
      let l = item_of_map link_of tree.labels i w at in
      seen_may i n l.0 l.1 (seen_mark l.0.mark n (ap (λ (v : LabelLink). v.seen_in) l.2 ∙ e))

  -- ---- instances

  -- No edge leads on from a shape of which there is an instance.
  no_edge_from_shape : (i n j : ℕ) (l : Label) → item_at tree.labels i ≡ Some l → l.mark ≡ Some (instance_of n) → IsEdgeOf (edges tree.labels) n j → ⊥
  no_edge_from_shape i n j l at e p =
      let s = settled_here protocol variables limits roots tree from i l at in
      let m = instance_says protocol limits links from.candidates i s.expanded_before s.so l s.gives n (becomes_here protocol variables limits roots tree from i l s) e in
      let c = item_of IsCandidate (λ (x : Label). x.skeleton) tree.labels from.candidates from.are_candidates m.of_place n m.of_label in
      let t = settled_here protocol variables limits roots tree from n c.item c.at in
      let mark : c.item.mark ≡ Some shape =
      candidate_shape protocol limits links from.candidates n t.expanded_before t.so tree.labels from.are_candidates m.of_place c.item t.gives (becomes_here protocol variables limits roots tree from n c.item t) c.is_so m.of_label m.least.holds.0 in
      let here : IsIn j (edge_by c.item.mark c.item.children) = subst (λ (o : Option Label). IsIn j (edges_from o)) c.at p in
      let none : IsIn j (edge_by c.item.mark []) = subst (λ (ns : List ℕ). IsIn j (edge_by c.item.mark ns)) c.is_so.own here in
      not_in_none (subst (λ (o : Option Mark). IsIn j (edge_by o [])) mark none)

  -- An edge from which another leads on is to a child, or to a label in which one is seen.
  edge_kept : (i j k : ℕ) → IsEdgeOf (edges tree.labels) i j → IsEdgeOf (edges tree.labels) j k → IsEdge links i j
  edge_kept i j k e f =
      let h = edge_from tree.labels i j e in
      ⊎_elim
      (λ (c : IsIn j h.label.children). edge_to_child protocol variables limits roots tree from i j h.label (settled_here protocol variables limits roots tree from i h.label h.at) c)
      (⊎_elim
      (λ (s : h.label.mark ≡ Some (seen j)). to_seen (map_of_item link_of tree.labels i h.label h.at) (ap seen_in_of s))
      (λ (s : h.label.mark ≡ Some (instance_of j)). absurd (no_edge_from_shape i j k h.label h.at s f)))
      h.kind

  way_kept : (i j k : ℕ) → Steps (IsEdgeOf (edges tree.labels)) i j → IsEdgeOf (edges tree.labels) j k → Steps (IsEdge links) i j
  way_kept i j k (one_step e) f = one_step (edge_kept i j k e f)
  way_kept i j k (more_steps {y = m} e s) f = let g = first_edge m j s in more_steps (edge_kept i m g.0 e g.1) (way_kept m j k s f)

  pub edges_have_no_cycle : (i : ℕ) → Steps (IsEdgeOf (edges tree.labels)) i i → ⊥
  edges_have_no_cycle i s = let g = first_edge i i s in no_cycle links parents_before points_where_it_may i (way_kept i i g.0 s g.1)
