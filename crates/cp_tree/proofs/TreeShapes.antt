-- The shapes of a tree are realised, and none embeds in another.
use Rattle.std.proofs.Common.{◌≡◌, ◌≢◌, ℕ, List, map, Some, sym, subst}
use Rattle.cp_lists.specs.Lists.{item_at}
use Rattle.cp_lists.proofs.Items.{map_of_item}
use Rattle.cp_model.specs.Strand.{Protocol}
use Rattle.cp_model.specs.declared.variable.Declaration.{Declaration}
use Rattle.cp_model.specs.Skeleton.{Skeleton, IsSkeleton}
use Rattle.cp_model.specs.Standing.{IsRealised}
use Rattle.cp_model.specs.Stated.{KeepsStated}
use Rattle.cp_model.specs.Homomorphism.{CarriesHomomorphism, Embeds}
use Rattle.cp_model.specs.PointOfView.{HasDeclaredVariables}
use Rattle.cp_model.specs.Tree.{Label, Tree}
use Rattle.cp_model.specs.declared.tree.Mark.TheVariants.{Shape as shape}
use Rattle.cp_model.specs.declared.tree.Limits.{Limits}
use Rattle.cp_theory.proofs.Realised.{realised}
use Rattle.cp_shapes.specs.Shapes.{EmbedsAt}
use Rattle.cp_shapes.proofs.Instances.{shapes_apart}
use Rattle.cp_skel.specs.Tables.{DiffersInTable}
use Rattle.cp_roots.specs.declared.root.Root.{Root}
use Rattle.cp_roots.specs.Sound.{AreSound}
use Rattle.cp_expansion.proofs.Tables.{skeleton_in_table, carries_in_table, stated_in_table}
use Rattle.cp_tree.specs.Candidates.{skeletons_of}
use Rattle.cp_tree.specs.Made.{link_of}
use Rattle.cp_tree.specs.Searched.{IsTreeFrom}
use Rattle.cp_tree.specs.Sound.{ExpandsSoundly, GeneralisesSoundly}
use Rattle.cp_tree.proofs.CandidatesEmbed.{as_candidates, one_label}
use Rattle.cp_tree.proofs.MarksSay.{IsMarkedShape, shape_says}
use Rattle.cp_tree.proofs.SoundOrGeneralised.{IsSoundLabel, label_skeleton, label_assumptions, itself_sound}
use Rattle.cp_tree.proofs.SoundLabels.{SettledHere, settled_here, becomes_here, skeleton_here, where_derivable, label_sound}

module _ (protocol : Protocol) (variables : List Declaration) (limits : Limits) (roots : List Root) (tree : Tree) (from : IsTreeFrom protocol variables limits roots tree) where
  abbrev Settled : ℕ → Label → Type 0
  Settled = SettledHere protocol variables limits roots tree from

  settled : (i : ℕ) (l : Label) → item_at tree.labels i ≡ Some l → Settled i l
  settled = settled_here protocol variables limits roots tree from

  is_shape : (i : ℕ) (l : Label) (s : Settled i l) → l.mark ≡ Some shape → IsMarkedShape protocol limits (map link_of tree.labels) from.candidates i s.expanded_before s.so
  is_shape i l s e = shape_says protocol limits (map link_of tree.labels) from.candidates i s.expanded_before s.so l s.gives (becomes_here protocol variables limits roots tree from i l s) e

  pub none_embeds_in_another : (i j : ℕ) (l m : Label) → item_at tree.labels i ≡ Some l → item_at tree.labels j ≡ Some m → l.mark ≡ Some shape → m.mark ≡ Some shape → i ≢ j → Embeds l.skeleton m.skeleton → ⊥
  none_embeds_in_another i j l m at au e f ne embeds =
      let s = is_shape i l (settled i l at) e in
      let t = is_shape j m (settled j m au) f in
      let labels_embed : EmbedsAt (map (λ (x : Label). x.skeleton) tree.labels) i j = record { first = l.skeleton; second = m.skeleton; at_first = map_of_item (λ (x : Label). x.skeleton) tree.labels i l at; at_second = map_of_item (λ (x : Label). x.skeleton) tree.labels j m au; embeds = embeds } in
      shapes_apart (skeletons_of from.candidates) s.place t.place s.is_shape t.is_shape (λ g. ne (one_label tree.labels from.candidates from.are_candidates s.place t.place i j s.at t.at g))
      (as_candidates tree.labels from.candidates from.are_candidates t.place s.place j i t.at s.at labels_embed)

  module _ (k : Skeleton) (sound : AreSound protocol k roots) (declared : (i : ℕ) (root : Root) → item_at roots i ≡ Some root → HasDeclaredVariables variables root.skeleton) (expands : ExpandsSoundly protocol k) where
    sound_here : (i : ℕ) (l : Label) → item_at tree.labels i ≡ Some l → (s : Settled i l) → IsSoundLabel protocol k s.so
    sound_here = label_sound protocol variables limits roots tree from k sound declared expands

    differs : (i : ℕ) (l : Label) (s : Settled i l) → DiffersInTable s.so.skeleton l.skeleton
    differs = skeleton_here protocol variables limits roots tree from

    pub are_skeletons : (i : ℕ) (l : Label) → item_at tree.labels i ≡ Some l → IsSkeleton protocol l.skeleton
    are_skeletons i l at = let s = settled i l at in skeleton_in_table s.so.skeleton l.skeleton (differs i l s) protocol (label_skeleton protocol k s.so (sound_here i l at s))

    pub shapes_realised : (i : ℕ) (l : Label) → item_at tree.labels i ≡ Some l → l.mark ≡ Some shape → IsRealised protocol l.skeleton
    shapes_realised i l at e =
        let s = settled i l at in
        let t = is_shape i l s e in
        let h = sound_here i l at s in
        subst (IsRealised protocol) (sym (where_derivable protocol variables limits roots tree from i l s t.realised)) (realised protocol s.so.skeleton (label_skeleton protocol k s.so h) (label_assumptions protocol k s.so h t.lives) t.realised)

    module _ (generalises : GeneralisesSoundly protocol k) where
      pub labels_from_problem : (i : ℕ) (l : Label) → item_at tree.labels i ≡ Some l → CarriesHomomorphism k l.skeleton
      labels_from_problem i l at = let s = settled i l at in carries_in_table s.so.skeleton l.skeleton (differs i l s) k (itself_sound protocol k generalises s.so (sound_here i l at s)).from_problem

      pub labels_keep_stated : (i : ℕ) (l : Label) → item_at tree.labels i ≡ Some l → KeepsStated k l.skeleton
      labels_keep_stated i l at = let s = settled i l at in stated_in_table s.so.skeleton l.skeleton (differs i l s) k (itself_sound protocol k generalises s.so (sound_here i l at s)).stated
