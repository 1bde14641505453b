-- Each label of a tree is left, or passes standings on along its edges.
use Rattle.std.proofs.Common.{◌≡◌, ◌⊎◌, inl, inr, ℕ, ◌+◌, List, [], ◌∷◌, length, map, Option, Some, None, refl, sym, ap, ◌∙◌, subst, ⊎_elim, arith}
use Rattle.cp_lists.specs.Lists.{item_at, IsIn, here, there}
use Rattle.cp_lists.proofs.Items.{item_of_map, map_of_item, item_still}
use Rattle.cp_lists.proofs.Mapped.{map_then}
use Rattle.cp_lists.proofs.Members.{into_map, from_map, head_or_behind, not_in_none, only_item}
use Rattle.cp_model.specs.Strand.{Protocol}
use Rattle.cp_model.specs.declared.variable.Declaration.{Declaration}
use Rattle.cp_model.specs.Skeleton.{Skeleton, IsSkeleton}
use Rattle.cp_model.specs.Bundle.{Bundle, IsBundle}
use Rattle.cp_model.specs.Standing.{Standing, StandsIn, StandsApart}
use Rattle.cp_model.specs.Homomorphism.{Embeds, FactorsThrough, Covers, IsCompleteList}
use Rattle.cp_model.specs.Problem.{numbers_from}
use Rattle.cp_model.specs.Realisation.{AllDerivable}
use Rattle.cp_model.specs.PointOfView.{HasDeclaredVariables}
use Rattle.cp_model.specs.Tree.{Label, Tree}
use Rattle.cp_model.specs.declared.tree.Mark.{Mark}
use Rattle.cp_model.specs.declared.tree.Mark.TheVariants.{Dead as dead}
use Rattle.cp_model.specs.declared.tree.Limits.{Limits}
use Rattle.cp_theory.specs.NoneLeftOut.{IsComplete}
use Rattle.cp_theory.specs.Lawful.{PassesOn, with_label, skeletons_at, IsLeft, at_shape, at_step_bound, at_strand_bound, IsLawful}
use Rattle.cp_theory.proofs.LabelDescents.{passes_on_to_embedding}
use Rattle.cp_theory.proofs.FactorsThroughMaps.{left_out_factors}
use Rattle.cp_theory.proofs.NoneLeftOut.{empty_where_it_stands_nowhere}
use Rattle.cp_shapes.specs.Shapes.{EmbedsAt}
use Rattle.cp_shapes.proofs.Instances.{same_item}
use Rattle.cp_skel.specs.Tables.{DiffersInTable}
use Rattle.cp_roots.specs.declared.root.Root.{Root}
use Rattle.cp_roots.specs.Roots.{in_report_order}
use Rattle.cp_roots.specs.Sound.{AreSound, StandsThroughRoot}
use Rattle.cp_cohort.specs.declared.child.Child.{Child}
use Rattle.cp_expansion.proofs.Tables.{skeleton_in_table, stands_in_table, stood_in_table, apart_in_table, apart_from_table, factors_in_table, passes_in_table}
use Rattle.cp_general.specs.Generalisation.{GeneralisesTo}
use Rattle.cp_general.proofs.SoundGeneralisations.{is_fit, embeds_back}
use Rattle.cp_tree.specs.Made.{Made, made_of_root, made_of_child, made_of_generalisation, LabelLink, link_of}
use Rattle.cp_tree.specs.Searched.{mark_by_children, IsMarkedAmong, as_shape, as_instance, IsTreeFrom}
use Rattle.cp_tree.proofs.Cases.{is_dead, is_seen, is_realised, is_generalised, above_bound, at_limit, is_tested}
use Rattle.cp_tree.specs.Sound.{ExpandsSoundly}
use Rattle.cp_tree.proofs.Numbered.{number_there}
use Rattle.cp_tree.proofs.CandidatesEmbed.{as_labels}
use Rattle.cp_tree.proofs.SoundOrGeneralised.{IsSoundLabel, label_skeleton, label_nowhere, where_unrealised}
use Rattle.cp_tree.proofs.SoundLabels.{SettledHere, settled_here, BecomesHere, becomes_here, skeleton_here, where_derivable, made_label, label_sound}
use Rattle.cp_tree.proofs.MadeChildren.{IsLabelOfMade, given_labels}
use Rattle.cp_tree.specs.Edges.{edge_by, edges_from, edges}
use Rattle.cp_tree.proofs.TreeEdges.{edges_have_no_cycle}

with_behind : (o : Option Label) (xs : List Skeleton) (x : Skeleton) → IsIn x xs → IsIn x (with_label o xs)
with_behind None xs x p = p
with_behind (Some l) xs x p = there p

with_first : (labels : List Label) (n m : ℕ) (ns : List ℕ) (l : Label) → n ≡ m → item_at labels n ≡ Some l → IsIn l.skeleton (skeletons_at labels (m ∷ ns))
with_first labels n m ns l e at =
    let there_too : item_at labels m ≡ Some l = ap (item_at labels) (sym e) ∙ at in
    subst (λ (o : Option Label). IsIn l.skeleton (with_label o (skeletons_at labels ns))) (sym there_too) here

-- The skeleton of a label at one of the numbers is among those at these.
skeleton_among : (labels : List Label) (ns : List ℕ) (n : ℕ) (l : Label) → IsIn n ns → item_at labels n ≡ Some l → IsIn l.skeleton (skeletons_at labels ns)
skeleton_among labels [] n l p at = absurd (not_in_none p)
skeleton_among labels (m ∷ ns) n l p at =
    ⊎_elim (λ (e : n ≡ m). with_first labels n m ns l e at) (λ (i : IsIn n ns). with_behind (item_at labels m) (skeletons_at labels ns) l.skeleton (skeleton_among labels ns n l i at)) (head_or_behind p)

edges_of_expanded : (ns : List ℕ) → edge_by (mark_by_children ns) ns ≡ ns
edges_of_expanded [] = refl
edges_of_expanded (n ∷ ns) = refl

module _ (protocol : Protocol) (variables : List Declaration) (limits : Limits) (roots : List Root) (tree : Tree) (from : IsTreeFrom protocol variables limits roots tree)
    (k : Skeleton) (sound : AreSound protocol k roots) (declared : (i : ℕ) (root : Root) → item_at roots i ≡ Some root → HasDeclaredVariables variables root.skeleton) (expands : ExpandsSoundly protocol k) where
  abbrev ks : List Skeleton
  ks = map (λ (l : Label). l.skeleton) tree.labels

  abbrev links : List LabelLink
  links = map link_of tree.labels

  skeletons_of_links : map (λ (w : LabelLink). w.skeleton) links ≡ ks
  skeletons_of_links = sym (map_then link_of (λ (w : LabelLink). w.skeleton) (λ (l : Label). l.skeleton) (λ l. refl) tree.labels)

  sound_here : (i : ℕ) (l : Label) → item_at tree.labels i ≡ Some l → (s : SettledHere protocol variables limits roots tree from i l) → IsSoundLabel protocol k s.so
  sound_here = label_sound protocol variables limits roots tree from k sound declared expands

  pub label_is_skeleton : (i : ℕ) (l : Label) → item_at tree.labels i ≡ Some l → IsSkeleton protocol l.skeleton
  label_is_skeleton i l at =
      let s = settled_here protocol variables limits roots tree from i l at in
      skeleton_in_table s.so.skeleton l.skeleton (skeleton_here protocol variables limits roots tree from i l s) protocol (label_skeleton protocol k s.so (sound_here i l at s))

  -- ---- along one edge

  -- A label passes on to one that embeds in it.
  passes_to_embedded : (i n : ℕ) (l : Label) → item_at tree.labels i ≡ Some l → EmbedsAt ks n i → PassesOn protocol k l.skeleton (skeletons_at tree.labels (n ∷ []))
  passes_to_embedded i n l at e =
      let m = item_of_map (λ (x : Label). x.skeleton) tree.labels n e.first e.at_first in
      let second : e.second ≡ l.skeleton = same_item ks i e.second l.skeleton e.at_second (map_of_item (λ (x : Label). x.skeleton) tree.labels i l at) in
      let into : Embeds m.0.skeleton l.skeleton = subst (λ (x : Skeleton). Embeds x l.skeleton) (sym m.2) (subst (Embeds e.first) second e.embeds) in
      let passes : PassesOn protocol k l.skeleton (m.0.skeleton ∷ []) = passes_on_to_embedding protocol k m.0.skeleton l.skeleton into.0 (label_is_skeleton n m.0 m.1) (label_is_skeleton i l at) into.1 in
      subst (λ (o : Option Label). PassesOn protocol k l.skeleton (with_label o [])) (sym m.1) passes

  -- Through a label with more variables than a skeleton a standing factors as through that.
  covers_in_table : (b : Bundle) (f : Standing) (ns : List ℕ) (n : ℕ) (l : Label) (x : Skeleton) (g : Standing) → IsIn n ns → item_at tree.labels n ≡ Some l → DiffersInTable x l.skeleton
      → StandsIn x b g → StandsApart x g → FactorsThrough k f x g → Covers (skeletons_at tree.labels ns) k b f
  covers_in_table b f ns n l x g listed at differs stands apart factors = record {
    skeleton = l.skeleton;
    listed = skeleton_among tree.labels ns n l listed at;
    standing = g;
    stands = stands_in_table x l.skeleton differs b g stands;
    apart = apart_in_table x l.skeleton differs g apart;
    factors = factors_in_table x l.skeleton differs k f g factors;
  }

  -- What covers by children covers by their labels.
  covers_by_labels : (b : Bundle) (f : Standing) (i : ℕ) (cs : List Child) (ns : List ℕ) → ((c : Child) → IsIn c cs → IsLabelOfMade protocol variables limits roots tree from ns (made_of_child i c))
      → Covers (map (λ (c : Child). in_report_order c.skeleton) cs) k b f → Covers (skeletons_at tree.labels ns) k b f
  covers_by_labels b f i cs ns labelled c =
      let d = from_map (λ (x : Child). in_report_order x.skeleton) cs c.listed in
      let n = labelled d.0 d.1 in
      let so = n.made_label.same in
      let same : n.made_label.settled.so.skeleton ≡ c.skeleton = ap (λ (m : Made). m.skeleton) so ∙ d.2 in
      covers_in_table b f ns n.number n.made_label.label c.skeleton c.standing n.listed n.made_label.at
      (subst (λ (x : Skeleton). DiffersInTable x n.made_label.label.skeleton) same (skeleton_here protocol variables limits roots tree from n.number n.made_label.label n.made_label.settled)) c.stands c.apart c.factors

  -- What a label generalises to embeds in it, as a label.
  generalised_embeds : (i : ℕ) (m : Made) (g : Skeleton) (child : ℕ) → item_at ks i ≡ Some m.skeleton → GeneralisesTo m.skeleton g → IsLabelOfMade protocol variables limits roots tree from (child ∷ []) (made_of_generalisation i g) → EmbedsAt ks child i
  generalised_embeds i m g child at w n =
      let number : n.number ≡ child = only_item n.listed in
      let so = n.made_label.same in
      let derivable : AllDerivable n.made_label.settled.so.skeleton = subst (λ (x : Made). AllDerivable x.skeleton) (sym so) (is_fit w).realised in
      let same : n.made_label.label.skeleton ≡ g = where_derivable protocol variables limits roots tree from n.number n.made_label.label n.made_label.settled derivable ∙ ap (λ (x : Made). x.skeleton) so in
      record {
        first = g;
        second = m.skeleton;
        at_first = ap (item_at ks) (sym number) ∙ (map_of_item (λ (x : Label). x.skeleton) tree.labels n.number n.made_label.label n.made_label.at ∙ ap Some same);
        at_second = at;
        embeds = embeds_back w;
      }

  -- ---- by what became of the label

  abbrev LeftOrPasses : Label → Type 0
  LeftOrPasses l = IsLeft l.mark ⊎ PassesOn protocol k l.skeleton (skeletons_at tree.labels (edge_by l.mark l.children))

  by_mark_among : (i : ℕ) (m : Made) (mark : Option Mark) → IsMarkedAmong from.candidates i mark → ((n : ℕ) → EmbedsAt ks n i → PassesOn protocol k m.skeleton (skeletons_at tree.labels (n ∷ []))) → IsLeft mark ⊎ PassesOn protocol k m.skeleton (skeletons_at tree.labels (edge_by mark []))
  by_mark_among i m mark (as_shape a s) to = inl at_shape
  by_mark_among i m mark (as_instance {p = p} {q = q} {n = n} a s c) to = inr (to n (as_labels tree.labels from.candidates from.are_candidates p q i n a c s.holds.1.embeds))

  by_becoming : (i before : ℕ) (m : Made) (l : Label) (gives : List Made) → BecomesHere protocol variables limits roots tree from i before m l gives → IsSoundLabel protocol k m → item_at ks i ≡ Some l.skeleton
      → ((n : ℕ) → EmbedsAt ks n i → PassesOn protocol k l.skeleton (skeletons_at tree.labels (n ∷ []))) → ((x : Made) → IsIn x gives → IsLabelOfMade protocol variables limits roots tree from l.children x) → LeftOrPasses l
  by_becoming i before m l gives (is_dead d) s at to labelled = inr (λ b f h is stands apart factors. absurd (label_nowhere protocol k m s d b h is stands apart))
  by_becoming i before m l gives (is_seen {n = n} d u least) s at to labelled = inr (to n (subst (λ (xs : List Skeleton). EmbedsAt xs n i) skeletons_of_links least.holds.embeds))
  by_becoming i before m l gives (is_realised {mark = mark} d n a y marked) s at to labelled = by_mark_among i m mark marked to
  by_becoming i before m l gives (is_generalised {g = g} {child = child} d n a w) s at to labelled =
      inr (to child (generalised_embeds i m g child at w (labelled (made_of_generalisation i g) here)))
  by_becoming i before m l gives (above_bound d n u r b) s at to labelled = inl at_strand_bound
  by_becoming i before m l gives (at_limit d n u r b e) s at to labelled = inl at_step_bound
  by_becoming i before m l gives (is_tested {e = e} {children = children} d n u r b c x w) s at to labelled =
      let passes : PassesOn protocol k m.skeleton (skeletons_at tree.labels children) =
      (λ b f h is stands apart factors. covers_by_labels b f i e.children children (λ c p. labelled (made_of_child i c) (into_made c p)) (left_out_factors protocol k m.skeleton (map (λ (c : Child). in_report_order c.skeleton) e.children) b f h (where_unrealised protocol k m s r).stated.in_range (expands m e (where_unrealised protocol k m s r) d r x).leaves_none_out is stands apart factors)) in
      let tabled : Skeleton = record m.skeleton { variables = e.skeleton.variables } in
      inr (subst (λ (ns : List ℕ). PassesOn protocol k tabled (skeletons_at tree.labels ns)) (sym (edges_of_expanded children)) (passes_in_table m.skeleton tabled refl protocol k (skeletons_at tree.labels children) passes))
    where
      into_made : (c : Child) → IsIn c e.children → IsIn (made_of_child i c) (map (made_of_child i) e.children)
      into_made c p = into_map (made_of_child i) p

  passes_on : (i : ℕ) (l : Label) → item_at tree.labels i ≡ Some l → IsLeft l.mark ⊎ PassesOn protocol k l.skeleton (skeletons_at tree.labels (edges tree.labels i))
  passes_on i l at =
      let s = settled_here protocol variables limits roots tree from i l at in
      let r : LeftOrPasses l = by_becoming i s.expanded_before s.so l s.gives (becomes_here protocol variables limits roots tree from i l s) (sound_here i l at s) (map_of_item (λ (x : Label). x.skeleton) tree.labels i l at) (λ n e. passes_to_embedded i n l at e)
      (given_labels protocol variables limits roots tree from i l s) in
      subst (λ (o : Option Label). IsLeft l.mark ⊎ PassesOn protocol k l.skeleton (skeletons_at tree.labels (edges_from o))) (sym at) r

  pub is_lawful : IsLawful protocol k tree.labels (edges tree.labels)
  is_lawful = record { no_cycle = edges_have_no_cycle protocol variables limits roots tree from; passes_on = passes_on }

  -- ---- dead labels

  no_children : (cs : List Child) (ns : List ℕ) → length ns ≡ length cs → mark_by_children ns ≡ Some dead → map (λ (c : Child). in_report_order c.skeleton) cs ≡ []
  no_children [] ns e dead_by = refl
  no_children (c ∷ cs) [] e dead_by = absurd (omega (arith, e))
  no_children (c ∷ cs) (n ∷ ns) e dead_by = absurd (cc)

  dead_among : (i : ℕ) (mark : Option Mark) → IsMarkedAmong from.candidates i mark → mark ≡ Some dead → ⊥
  dead_among i mark (as_shape a s) e = cc
  dead_among i mark (as_instance a s c) e = cc

  dead_by_becoming : (i before : ℕ) (m : Made) (l : Label) (gives : List Made) → BecomesHere protocol variables limits roots tree from i before m l gives → IsSoundLabel protocol k m → l.mark ≡ Some dead
      → (b : Bundle) (h : Standing) → IsBundle protocol b → StandsIn m.skeleton b h → StandsApart m.skeleton h → ⊥
  dead_by_becoming i before m l gives (is_dead d) s e = label_nowhere protocol k m s d
  dead_by_becoming i before m l gives (is_seen d u least) s e = absurd (cc)
  dead_by_becoming i before m l gives (is_realised {mark = mark} d n a y marked) s e = absurd (dead_among i mark marked e)
  dead_by_becoming i before m l gives (is_generalised d n a w) s e = absurd (cc)
  dead_by_becoming i before m l gives (above_bound d n u r b) s e = absurd (cc)
  dead_by_becoming i before m l gives (at_limit d n u r b q) s e = absurd (cc)
  dead_by_becoming i before m l gives (is_tested {e = x} {children = children} d n u r b c y w) s e =
      empty_where_it_stands_nowhere protocol m.skeleton (subst (IsComplete protocol m.skeleton) (no_children x.children children w e) (expands m x (where_unrealised protocol k m s r) d r y).leaves_none_out)

  -- A label that is dead stands apart nowhere.
  pub dead_nowhere : (i : ℕ) (l : Label) → item_at tree.labels i ≡ Some l → l.mark ≡ Some dead → (b : Bundle) (h : Standing) → IsBundle protocol b → StandsIn l.skeleton b h → StandsApart l.skeleton h → ⊥
  dead_nowhere i l at e =
      let s = settled_here protocol variables limits roots tree from i l at in
      let differs : DiffersInTable s.so.skeleton l.skeleton = skeleton_here protocol variables limits roots tree from i l s in
      λ b h is stands apart.
      dead_by_becoming i s.expanded_before s.so l s.gives (becomes_here protocol variables limits roots tree from i l s) (sound_here i l at s) e b h is
      (stood_in_table s.so.skeleton l.skeleton differs b h stands) (apart_from_table s.so.skeleton l.skeleton differs h apart)

  -- ---- from the roots

  pub roots_cover : IsCompleteList protocol k (skeletons_at tree.labels (numbers_from 0 roots))
  roots_cover b h is stands =
      let t : StandsThroughRoot k roots b h = sound.covers b h is stands in
      let front : item_at (map made_of_root roots) t.number ≡ Some (made_of_root t.root) = map_of_item made_of_root roots t.number t.root t.at in
      let m = made_label protocol variables limits roots tree from t.number (made_of_root t.root) (item_still (map made_of_root roots) from.children t.number (made_of_root t.root) front) in
      let so = m.same in
      let differs : DiffersInTable t.root.skeleton m.label.skeleton = subst (λ (x : Made). DiffersInTable x.skeleton m.label.skeleton) so (skeleton_here protocol variables limits roots tree from t.number m.label m.settled) in
      let number : 0 + t.number ≡ t.number = omega arith in
      let listed : IsIn t.number (numbers_from 0 roots) = subst (λ (n : ℕ). IsIn n (numbers_from 0 roots)) number (number_there 0 t.number roots t.root t.at) in
      covers_in_table b h (numbers_from 0 roots) t.number m.label t.root.skeleton t.standing listed m.at differs t.stands t.apart t.factors
