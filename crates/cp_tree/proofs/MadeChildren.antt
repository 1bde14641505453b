-- The children of a label are the labels that were made from it.
use Rattle.std.proofs.Common.{◌≡◌, ℕ, ◌+◌, List, length, map, Some, sym, ap, ◌∙◌, subst, arith}
use Rattle.std.proofs.lemmas.List.{length-map}
use Rattle.cp_lists.specs.Lists.{item_at, IsIn}
use Rattle.cp_lists.proofs.Items.{place_of, at_place, map_of_item, item_further}
use Rattle.cp_model.specs.Strand.{Protocol}
use Rattle.cp_model.specs.declared.variable.Declaration.{Declaration}
use Rattle.cp_model.specs.Tree.{Label, Tree}
use Rattle.cp_model.specs.declared.tree.Limits.{Limits}
use Rattle.cp_roots.specs.declared.root.Root.{Root}
use Rattle.cp_tree.specs.Made.{Made, made_of_root, link_of, IsEdge, to_child}
use Rattle.cp_tree.specs.Searched.{IsMarkedAmong, IsTreeFrom}
use Rattle.cp_tree.proofs.Numbered.{number_of, number_there}
use Rattle.cp_tree.proofs.Settled.{IsMadeFrom, made_of}
use Rattle.cp_tree.proofs.SoundLabels.{made, SettledHere, becomes_here, parent_here, HasMadeLabel, made_label}

module _ (protocol : Protocol) (variables : List Declaration) (limits : Limits) (roots : List Root) (tree : Tree) (from : IsTreeFrom protocol variables limits roots tree) where
  abbrev MadeHere : List Made
  MadeHere = made protocol variables limits roots tree from

  abbrev Settled : ℕ → Label → Type 0
  Settled = SettledHere protocol variables limits roots tree from

  -- What a label gives stands at its number.
  given_at : (i q : ℕ) (l : Label) (x : Made) (s : Settled i l) → item_at s.gives q ≡ Some x → item_at MadeHere ((length roots + s.offset) + q) ≡ Some x
  given_at i q l x s at =
      let count : length (map made_of_root roots) ≡ length roots = length-map roots made_of_root in
      let place : (length roots + s.offset) + q ≡ length (map made_of_root roots) + (s.offset + q) = omega (arith, count) in
      item_further (map made_of_root roots) from.children (s.offset + q) ((length roots + s.offset) + q) x place (s.behind q x at)

  -- The label that was made so is among the children.
  pub record IsLabelOfMade (numbers : List ℕ) (x : Made) : Type 0 where
    pub number : ℕ
    pub listed : IsIn number numbers
    pub made_label : HasMadeLabel protocol variables limits roots tree from number x

  pub given_labels : (i : ℕ) (l : Label) (s : Settled i l) (x : Made) → IsIn x s.gives → IsLabelOfMade l.children x
  given_labels i l s x p =
      let q = place_of p in
      let at : item_at s.gives q.0 ≡ Some x = q.1 in
      record {
        number = (length roots + s.offset) + q.0;
        listed = subst (λ (ns : List ℕ). IsIn ((length roots + s.offset) + q.0) ns) (sym s.numbers) (number_there (length roots + s.offset) q.0 s.gives x at);
        made_label = made_label protocol variables limits roots tree from ((length roots + s.offset) + q.0) x (given_at i q.0 l x s at);
      }

  -- Each child is a label that was made from the label.
  pub child_label : (i j : ℕ) (l : Label) (s : Settled i l) → IsIn j l.children → (m : Label) × (item_at tree.labels j ≡ Some m) × (m.parent ≡ Some i)
  child_label i j l s p =
      let n = number_of (length roots + s.offset) j s.gives (subst (λ (ns : List ℕ). IsIn j ns) s.numbers p) in
      let at : item_at s.gives n.0 ≡ Some n.1 = n.2 in
      let number : (length roots + s.offset) + n.0 ≡ j = sym n.3 in
      let h = made_label protocol variables limits roots tree from j n.1 (subst (λ (a : ℕ). item_at MadeHere a ≡ Some n.1) number (given_at i n.0 l n.1 s at)) in
      let c : IsMadeFrom protocol limits (map link_of tree.labels) (IsMarkedAmong from.candidates) i s.so n.1 =
      made_of protocol limits (map link_of tree.labels) (IsMarkedAmong from.candidates) i s.expanded_before s.so l s.gives n.1 (becomes_here protocol variables limits roots tree from i l s) (at_place s.gives n.0 n.1 at) in
      (h.label, h.at, parent_here protocol variables limits roots tree from j h.label h.settled ∙ ap (λ (x : Made). x.parent) h.same ∙ c.parent)

  pub edge_to_child : (i j : ℕ) (l : Label) (s : Settled i l) → IsIn j l.children → IsEdge (map link_of tree.labels) i j
  edge_to_child i j l s p = let c = child_label i j l s p in to_child (map_of_item link_of tree.labels j c.0 c.1) c.2
