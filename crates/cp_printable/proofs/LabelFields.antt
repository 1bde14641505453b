-- What stands in each label of a tree: its unrealised receptions, its test, its escape set and its mark.
use Rattle.std.proofs.Common.{◌≡◌, ℕ, ◌<◌, List, [], ◌∷◌, length, map, Option, Some, None, refl, sym, subst, ⊎_elim, arith}
use Rattle.cp_lists.specs.Lists.{item_at, IsIn}
use Rattle.cp_lists.proofs.Items.{item_below}
use Rattle.cp_lists.proofs.Members.{not_in_none}
use Rattle.cp_model.specs.Strand.{Protocol}
use Rattle.cp_model.specs.declared.strand.Event.TheVariants.{Receive as recv}
use Rattle.cp_model.specs.declared.variable.Declaration.{Declaration}
use Rattle.cp_model.specs.declared.node.Node.{Node}
use Rattle.cp_model.specs.Skeleton.{IsNodeOf, Skeleton}
use Rattle.cp_model.specs.Tree.{Label, Tree}
use Rattle.cp_model.specs.declared.tree.Mark.{Mark}
use Rattle.cp_model.specs.declared.tree.Limits.{Limits}
use Rattle.cp_derive.specs.Unrealised.{ListsUnrealised}
use Rattle.cp_roots.specs.declared.root.Root.{Root}
use Rattle.cp_tree.specs.Candidates.{IsCandidate}
use Rattle.cp_tree.specs.Made.{Made, LabelLink, link_of}
use Rattle.cp_tree.specs.Searched.{mark_by_children, IsMarkedAmong, as_shape, as_instance, IsTreeFrom}
use Rattle.cp_tree.proofs.Cases.{Becomes, is_dead, is_seen, is_realised, is_generalised, above_bound, at_limit, is_tested}
use Rattle.cp_tree.proofs.Picked.{item_of}
use Rattle.cp_tree.proofs.Settled.{IsUnexpanded, IsExpanded, IsOfMade, unexpanded}
use Rattle.cp_tree.proofs.SoundLabels.{settled_here, becomes_here, of_made_here}
use Rattle.cp_report.specs.FittingTrees.{IsTestOn, HasMarkOrChildren}

-- ---- in a label that became so

listed_node : (k : Skeleton) (nodes : List Node) → ListsUnrealised k nodes → (n : Node) → IsIn n nodes → IsNodeOf k.strands n
listed_node k nodes lists n i = let u = (lists.each n).0 i in (recv u.message, u.reception)

module _ (protocol : Protocol) (limits : Limits) (links : List LabelLink) (marks : ℕ → Option Mark → Type 0) where
  unrealised_by : (i before : ℕ) (m : Made) (l : Label) (gives : List Made) → Becomes protocol limits links marks i before m l gives → (n : Node) → IsIn n l.unrealised → IsNodeOf l.skeleton.strands n
  unrealised_by i before m l gives (is_dead d) n p = absurd (not_in_none p)
  unrealised_by i before m l gives (is_seen {nodes = nodes} d u s) n p = listed_node m.skeleton nodes u n p
  unrealised_by i before m l gives (is_realised d new a g s) n p = absurd (not_in_none p)
  unrealised_by i before m l gives (is_generalised d new a to) n p = absurd (not_in_none p)
  unrealised_by i before m l gives (above_bound {nodes = nodes} d new u r b) n p = listed_node m.skeleton nodes u n p
  unrealised_by i before m l gives (at_limit {nodes = nodes} d new u r b q) n p = listed_node m.skeleton nodes u n p
  unrealised_by i before m l gives (is_tested {nodes = nodes} d new u r b c e s) n p = listed_node m.skeleton nodes u n p

  test_by : (before : ℕ) (m : Made) (l : Label) (gives : List Made) → IsOfMade protocol limits links marks before m l gives → IsTestOn l.skeleton l.test
  test_by before m l gives is =
      ⊎_elim
      (λ (u : IsUnexpanded protocol limits links marks m l). subst (IsTestOn l.skeleton) (sym u.test) tt)
      (λ (e : IsExpanded protocol limits links marks before m l).
      let t = e.is_expansion.test in
      subst (IsTestOn l.skeleton) (sym e.test) (subst (λ (k : Skeleton). IsTestOn k (Some e.expansion.test)) (sym is.skeleton) (recv t.message, t.reception)))
      is.way

  -- An expanded label is dead or has children.
  dead_or_children : (labels : List Label) (children : List ℕ) → HasMarkOrChildren labels (mark_by_children children) children
  dead_or_children labels [] = (tt, refl)
  dead_or_children labels (n ∷ ns) = λ e. cc

  -- What a mark of a realised label says is there.
  abbrev MarksAreIn : List Label → ℕ → Type 0
  MarksAreIn labels i = (mark : Option Mark) → marks i mark → HasMarkOrChildren labels mark []

  mark_of : (labels : List Label) (i before : ℕ) (m : Made) (l : Label) (gives : List Made) → Becomes protocol limits links marks i before m l gives → i < length labels → MarksAreIn labels i → HasMarkOrChildren labels l.mark l.children
  mark_of labels i before m l gives (is_dead d) within are = (tt, refl)
  mark_of labels i before m l gives (is_seen {n = n} d u s) within are = (let earlier = s.holds.earlier in omega (arith, earlier, within), refl)
  mark_of labels i before m l gives (is_realised {mark = mark} d n a g s) within are = are mark s
  mark_of labels i before m l gives (is_generalised d n a to) within are = λ e. cc
  mark_of labels i before m l gives (above_bound d n u r b) within are = (tt, refl)
  mark_of labels i before m l gives (at_limit d n u r b q) within are = (tt, refl)
  mark_of labels i before m l gives (is_tested {children = children} d n u r b c e s) within are = dead_or_children labels children

-- ---- in each label of a tree

module _ (protocol : Protocol) (variables : List Declaration) (limits : Limits) (roots : List Root) (tree : Tree) (from : IsTreeFrom protocol variables limits roots tree) where
  abbrev links : List LabelLink
  links = map link_of tree.labels

  -- The label of which one is an instance is there.
  marks_are_in : (i : ℕ) (mark : Option Mark) → IsMarkedAmong from.candidates i mark → HasMarkOrChildren tree.labels mark []
  marks_are_in i mark (as_shape a s) = (tt, refl)
  marks_are_in i mark (as_instance {q = q} {n = n} a l b) =
      let g = item_of IsCandidate (λ (x : Label). x.skeleton) tree.labels from.candidates from.are_candidates q n b in
      (item_below tree.labels n g.item g.at, refl)

  module _ (i : ℕ) (l : Label) (at : item_at tree.labels i ≡ Some l) where
    pub label_unrealised : (n : Node) → IsIn n l.unrealised → IsNodeOf l.skeleton.strands n
    label_unrealised = let s = settled_here protocol variables limits roots tree from i l at in unrealised_by protocol limits links (IsMarkedAmong from.candidates) i s.expanded_before s.so l s.gives (becomes_here protocol variables limits roots tree from i l s)

    pub label_test : IsTestOn l.skeleton l.test
    label_test = let s = settled_here protocol variables limits roots tree from i l at in test_by protocol limits links (IsMarkedAmong from.candidates) s.expanded_before s.so l s.gives (of_made_here protocol variables limits roots tree from i l s)

    pub label_escape : l.test ≡ None → l.escape ≡ []
    label_escape none = let s = settled_here protocol variables limits roots tree from i l at in (unexpanded protocol limits links (IsMarkedAmong from.candidates) s.expanded_before s.so l s.gives (of_made_here protocol variables limits roots tree from i l s) none).escape

    pub label_mark : HasMarkOrChildren tree.labels l.mark l.children
    label_mark =
        let s = settled_here protocol variables limits roots tree from i l at in
        mark_of protocol limits links (IsMarkedAmong from.candidates) tree.labels i s.expanded_before s.so l s.gives (becomes_here protocol variables limits roots tree from i l s) (item_below tree.labels i l at) (marks_are_in i)
