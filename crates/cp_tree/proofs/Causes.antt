-- Each mark has its cause.
use Rattle.std.proofs.Common.{◌≡◌, ◌⊎◌, inl, inr, ◌<◌, ◌≤◌, ℕ, List, [], ◌∷◌, length, map, true, false, Option, Some, None, refl, sym, ap, ◌∙◌, subst, ⊎_elim}
use Rattle.cp_lists.specs.Lists.{item_at, IsIn, here}
use Rattle.cp_lists.proofs.Items.{item_of_map, front_or_behind}
use Rattle.cp_lists.proofs.Members.{only_item}
use Rattle.cp_model.specs.Strand.{Protocol}
use Rattle.cp_model.specs.declared.variable.Declaration.{Declaration}
use Rattle.cp_model.specs.Skeleton.{Skeleton}
use Rattle.cp_model.specs.Derivable.{IsUnrealised}
use Rattle.cp_model.specs.Realisation.{AllDerivable}
use Rattle.cp_model.specs.Homomorphism.{Embeds}
use Rattle.cp_model.specs.Tree.{Label, Tree, expanded_count}
use Rattle.cp_model.specs.declared.tree.Mark.{Mark}
use Rattle.cp_model.specs.declared.tree.Mark.TheVariants.{Shape as shape, Dead as dead, Seen as seen, InstanceOf as instance_of, LimitSteps as limit_steps, LimitStrands as limit_strands}
use Rattle.cp_model.specs.declared.tree.Limits.{Limits}
use Rattle.cp_shapes.specs.Shapes.{IsLeast, IsInstanceWithin, IsShapeAt}
use Rattle.cp_shapes.proofs.Instances.{same_item}
use Rattle.cp_roots.specs.declared.root.Root.{Root}
use Rattle.cp_general.specs.Generalisation.{IsMaximallyGeneral, GeneralisesTo}
use Rattle.cp_general.proofs.SoundGeneralisations.{is_fit}
use Rattle.cp_tree.specs.Candidates.{IsCandidate, skeletons_of, IsLabelAt}
use Rattle.cp_tree.specs.Made.{Made, made_of_root, made_of_generalisation, LabelLink, link_of, MayPointTo}
use Rattle.cp_tree.specs.Searched.{mark_by_children, IsMarkedAmong, as_shape, as_instance, IsTreeFrom}
use Rattle.cp_tree.proofs.Cases.{is_dead, is_seen, is_realised, is_generalised, above_bound, at_limit, is_tested}
use Rattle.cp_tree.specs.Edges.{IsLeafLabel}
use Rattle.cp_tree.specs.Marked.{IsShapeAmong, IsDeadRoot, IsSeenInLeast, IsGeneralised}
use Rattle.cp_tree.proofs.Picked.{item_of, skeleton_at_place, place_of_item, place_before}
use Rattle.cp_tree.proofs.CandidatesEmbed.{as_labels, as_candidates, one_label}
use Rattle.cp_tree.proofs.Settled.{made_from}
use Rattle.cp_tree.proofs.MarksSay.{only_dead, shape_says, instance_says, seen_says, steps_says, strands_says, candidate_shape}
use Rattle.cp_tree.proofs.SoundLabels.{made, SettledHere, settled_here, BecomesHere, becomes_here, of_made_here, where_derivable}
use Rattle.cp_tree.proofs.MadeChildren.{IsLabelOfMade, given_labels}
use Rattle.cp_tree.proofs.ReachedLimits.{count_reached}

leaf_of : (l : Label) → l.test ≡ None → l.children ≡ [] → IsLeafLabel l
leaf_of l t c = record { unexpanded = t; no_children = c }

none_by_children : (children : List ℕ) → mark_by_children children ≡ Some dead → children ≡ []
none_by_children [] e = refl
none_by_children (n ∷ ns) e = absurd (cc)

module _ (protocol : Protocol) (variables : List Declaration) (limits : Limits) (roots : List Root) (tree : Tree) (from : IsTreeFrom protocol variables limits roots tree) where
  abbrev links : List LabelLink
  links = map link_of tree.labels

  abbrev Here : ℕ → ℕ → Made → Label → List Made → Type 0
  Here = BecomesHere protocol variables limits roots tree from

  abbrev Settled : ℕ → Label → Type 0
  Settled = SettledHere protocol variables limits roots tree from

  settled : (i : ℕ) (l : Label) → item_at tree.labels i ≡ Some l → Settled i l
  settled = settled_here protocol variables limits roots tree from

  here_is : (i : ℕ) (l : Label) (s : Settled i l) → Here i s.expanded_before s.so l s.gives
  here_is = becomes_here protocol variables limits roots tree from

  -- A label with another mark than that of its children is a leaf.
  leaf_by : (i before : ℕ) (m : Made) (l : Label) (gives : List Made) (mark : Mark) → Here i before m l gives → l.mark ≡ Some mark → (dead ≡ mark → ⊥) → IsLeafLabel l
  leaf_by i before m l gives mark (is_dead d) e ne = leaf_of l refl refl
  leaf_by i before m l gives mark (is_seen d u s) e ne = leaf_of l refl refl
  leaf_by i before m l gives mark (is_realised d n a y s) e ne = leaf_of l refl refl
  leaf_by i before m l gives mark (is_generalised d n a w) e ne = absurd (cc)
  leaf_by i before m l gives mark (above_bound d n u r b) e ne = leaf_of l refl refl
  leaf_by i before m l gives mark (at_limit d n u r b q) e ne = leaf_of l refl refl
  leaf_by i before m l gives mark (is_tested {children = children} d n u r b c x s) e ne = absurd (ne (only_dead children mark e))

  leaf : (i : ℕ) (l : Label) (mark : Mark) → item_at tree.labels i ≡ Some l → l.mark ≡ Some mark → (dead ≡ mark → ⊥) → IsLeafLabel l
  leaf i l mark at e ne = let s = settled i l at in leaf_by i s.expanded_before s.so l s.gives mark (here_is i l s) e ne

  -- ---- shapes and instances

  -- A shape is an instance of no other candidate.
  instance_of_none : (p i j : ℕ) (m : Label) → IsLabelAt from.candidates p i → IsShapeAt (skeletons_of from.candidates) p → item_at tree.labels j ≡ Some m → IsCandidate m
      → IsInstanceWithin (map (λ (x : Label). x.skeleton) tree.labels) i j → ⊥
  instance_of_none p i j m a is at candidate within =
      let q = place_of_item IsCandidate (λ (x : Label). x.skeleton) tree.labels from.candidates from.are_candidates j m at candidate in
      is.no_instance q.0 (record {
        other = λ e. within.other (one_label tree.labels from.candidates from.are_candidates q.0 p j i q.1 a e);
        embeds = as_candidates tree.labels from.candidates from.are_candidates p q.0 i j a q.1 within.embeds;
        first = ⊎_elim
            (λ none. inl (λ e. none (as_labels tree.labels from.candidates from.are_candidates q.0 p j i q.1 a e)))
            (λ (l : j < i). inr (place_before IsCandidate (λ (x : Label). x.skeleton) tree.labels from.candidates from.are_candidates p q.0 i j a q.1 l))
            within.first;
      })

  pub shape_cause : (i : ℕ) (l : Label) → item_at tree.labels i ≡ Some l → l.mark ≡ Some shape → IsShapeAmong tree.labels i l
  shape_cause i l at e =
      let s = settled i l at in
      let r = shape_says protocol limits links from.candidates i s.expanded_before s.so l s.gives (here_is i l s) e in
      let same : s.so.skeleton ≡ l.skeleton = sym (where_derivable protocol variables limits roots tree from i l s r.realised) in
      record {
        realised = subst AllDerivable same r.realised;
        most_general = subst IsMaximallyGeneral same r.most_general;
        leaf = leaf i l shape at e (λ q. cc);
        no_instance = λ j m au candidate within. instance_of_none r.place i j m r.at r.is_shape au candidate within;
      }

  -- A candidate's skeleton is that of its label.
  place_skeleton : (p i : ℕ) (l : Label) (a : IsLabelAt from.candidates p i) → item_at tree.labels i ≡ Some l → item_at (skeletons_of from.candidates) p ≡ Some l.skeleton
  place_skeleton p i l a at =
      let g = item_of IsCandidate (λ (x : Label). x.skeleton) tree.labels from.candidates from.are_candidates p i a in
      let e : Some g.item ≡ Some l = sym g.at ∙ at in
      let same : g.item ≡ l = cc in
      skeleton_at_place IsCandidate (λ (x : Label). x.skeleton) tree.labels from.candidates from.are_candidates p i a ∙ ap Some (g.skeleton_is ∙ ap (λ (x : Label). x.skeleton) same)

  pub instance_cause : (i n : ℕ) (l : Label) → item_at tree.labels i ≡ Some l → l.mark ≡ Some (instance_of n) → (m : Label) × (item_at tree.labels n ≡ Some m) × (m.mark ≡ Some shape) × Embeds m.skeleton l.skeleton
  instance_cause i n l at e =
      let s = settled i l at in
      let r = instance_says protocol limits links from.candidates i s.expanded_before s.so l s.gives n (here_is i l s) e in
      let c = item_of IsCandidate (λ (x : Label). x.skeleton) tree.labels from.candidates from.are_candidates r.of_place n r.of_label in
      let t = settled n c.item c.at in
      let mark : c.item.mark ≡ Some shape = candidate_shape protocol limits links from.candidates n t.expanded_before t.so tree.labels from.are_candidates r.of_place c.item t.gives (here_is n c.item t) c.is_so r.of_label r.least.holds.0 in
      let embeds = r.least.holds.1.embeds in
      let first : embeds.first ≡ c.item.skeleton = same_item (skeletons_of from.candidates) r.of_place embeds.first c.item.skeleton embeds.at_first (place_skeleton r.of_place n c.item r.of_label c.at) in
      let second : embeds.second ≡ l.skeleton = same_item (skeletons_of from.candidates) r.place embeds.second l.skeleton embeds.at_second (place_skeleton r.place i l r.at at) in
      (c.item, c.at, mark, subst (λ (x : Skeleton). Embeds x l.skeleton) first (subst (Embeds embeds.first) second embeds.embeds))

  -- ---- seen

  least_says : (i before : ℕ) (m : Made) (l : Label) (gives : List Made) (n : ℕ) → Here i before m l gives → l.mark ≡ Some (seen n) → IsLeast (MayPointTo links i) n
  least_says i before m l gives n (is_dead d) e = absurd (cc)
  least_says i before m l gives n (is_seen {n = o} d u s) e = let same : o ≡ n = cc in subst (IsLeast (MayPointTo links i)) same s
  least_says i before m l gives n (is_realised {mark = mark} d o a y s) e = absurd (o n (seen_says protocol limits links from.candidates i before m (record l { mark = mark }) gives n (is_realised d o a y s) e))
  least_says i before m l gives n (is_generalised d o a w) e = absurd (cc)
  least_says i before m l gives n (above_bound d o u r b) e = absurd (cc)
  least_says i before m l gives n (at_limit d o u r b q) e = absurd (cc)
  least_says i before m l gives n (is_tested {children = children} d o u r b c x s) e = absurd (let f = only_dead children (seen n) e in cc)

  pub seen_cause : (i n : ℕ) (l : Label) → item_at tree.labels i ≡ Some l → l.mark ≡ Some (seen n) → IsLeast (MayPointTo links i) n × IsLeafLabel l
  seen_cause i n l at e = let s = settled i l at in (least_says i s.expanded_before s.so l s.gives n (here_is i l s) e, leaf i l (seen n) at e (λ q. cc))

  -- ---- dead

  dead_from_start : (i : ℕ) (m : Made) → item_at (made protocol variables limits roots tree from) i ≡ Some m → m.dead ≡ true → IsDeadRoot roots i
  dead_from_start i m at d =
      ⊎_elim
      (λ (front : item_at (map made_of_root roots) i ≡ Some m).
      let r = item_of_map made_of_root roots i m front in
      record { root = r.0; at = r.1; dead = ap (λ (x : Made). x.dead) r.2 ∙ d })
      (λ (listed : IsIn m from.children).
      let f = made_from protocol limits links (IsMarkedAmong from.candidates) 0 0 (made protocol variables limits roots tree from) tree.labels from.children from.settled m listed in
      absurd (let e : false ≡ true = sym f.is_made.made_lives ∙ d in cc))
      (front_or_behind (map made_of_root roots) from.children i m at)

  dead_by : (i before : ℕ) (m : Made) (l : Label) (gives : List Made) → Here i before m l gives → l.mark ≡ Some dead → (m.dead ≡ true → IsDeadRoot roots i) → (l.children ≡ []) × ((l.test ≡ None → ⊥) ⊎ IsDeadRoot roots i)
  dead_by i before m l gives (is_dead d) e root = (refl, inr (root d))
  dead_by i before m l gives (is_seen d u s) e root = absurd (cc)
  dead_by i before m l gives (is_realised {mark = mark} d n a y s) e root = absurd (never mark s e)
    where
      never : (o : Option Mark) → IsMarkedAmong from.candidates i o → o ≡ Some dead → ⊥
      never o (as_shape b t) q = cc
      never o (as_instance b t c) q = cc
  dead_by i before m l gives (is_generalised d n a w) e root = absurd (cc)
  dead_by i before m l gives (above_bound d n u r b) e root = absurd (cc)
  dead_by i before m l gives (at_limit d n u r b q) e root = absurd (cc)
  dead_by i before m l gives (is_tested {children = children} d n u r b c x s) e root = (none_by_children children e, inl (λ q. cc))

  pub dead_cause : (i : ℕ) (l : Label) → item_at tree.labels i ≡ Some l → l.mark ≡ Some dead → (l.children ≡ []) × ((l.test ≡ None → ⊥) ⊎ IsDeadRoot roots i)
  dead_cause i l at e = let s = settled i l at in dead_by i s.expanded_before s.so l s.gives (here_is i l s) e (λ d. dead_from_start i s.so s.at_made d)

  -- ---- labels that may point to some label

  abbrev SeenOrDead : ℕ → Label → Type 0
  SeenOrDead i l = IsSeenInLeast tree.labels i l ⊎ ((l.mark ≡ Some dead) × IsDeadRoot roots i)

  seen_by : (i before : ℕ) (m : Made) (l : Label) (gives : List Made) (n : ℕ) → Here i before m l gives → MayPointTo links i n → (m.dead ≡ true → IsDeadRoot roots i) → SeenOrDead i l
  seen_by i before m l gives n (is_dead d) p root = inr (refl, root d)
  seen_by i before m l gives n (is_seen {n = o} d u s) p root = inl (record { number = o; mark = refl; least = s })
  seen_by i before m l gives n (is_realised d o a y t) p root = absurd (o n p)
  seen_by i before m l gives n (is_generalised d o a w) p root = absurd (o n p)
  seen_by i before m l gives n (above_bound d o u r b) p root = absurd (o n p)
  seen_by i before m l gives n (at_limit d o u r b q) p root = absurd (o n p)
  seen_by i before m l gives n (is_tested d o u r b c x t) p root = absurd (o n p)

  pub seen_where_it_may : (i n : ℕ) (l : Label) → item_at tree.labels i ≡ Some l → MayPointTo links i n → SeenOrDead i l
  seen_where_it_may i n l at may = let s = settled i l at in seen_by i s.expanded_before s.so l s.gives n (here_is i l s) may (λ d. dead_from_start i s.so s.at_made d)

  -- ---- generalised labels

  -- The label was made so and generalises to g.
  record GoesOnTo (m : Made) (l : Label) (gives : List Made) (i : ℕ) : Type 0 where
    generalisation : Skeleton
    generalises : GeneralisesTo m.skeleton generalisation
    realised : AllDerivable m.skeleton
    number : ℕ
    one_child : l.children ≡ number ∷ []
    listed : IsIn (made_of_generalisation i generalisation) gives

  goes_on : (i before : ℕ) (m : Made) (l : Label) (gives : List Made) → Here i before m l gives → l.mark ≡ None → l.test ≡ None → GoesOnTo m l gives i
  goes_on i before m l gives (is_dead d) e t = absurd (cc)
  goes_on i before m l gives (is_seen d u s) e t = absurd (cc)
  goes_on i before m l gives (is_realised {mark = mark} d n a y s) e t = absurd (always mark s e)
    where
      always : (o : Option Mark) → IsMarkedAmong from.candidates i o → o ≡ None → ⊥
      always o (as_shape b t) q = cc
      always o (as_instance b t c) q = cc
  goes_on i before m l gives (is_generalised {g = g} {child = child} d n a w) e t = record { generalisation = g; generalises = w; realised = a; number = child; one_child = refl; listed = here }
  goes_on i before m l gives (above_bound d n u r b) e t = absurd (cc)
  goes_on i before m l gives (at_limit d n u r b q) e t = absurd (cc)
  goes_on i before m l gives (is_tested d n u r b c x s) e t = absurd (cc)

  -- What was made of it is its one child.
  child_of : (i : ℕ) (l : Label) (s : Settled i l) (g : GoesOnTo s.so l s.gives i) → IsLabelOfMade protocol variables limits roots tree from l.children (made_of_generalisation i g.generalisation) → IsGeneralised tree.labels l
  child_of i l s g c =
      let number : c.number ≡ g.number = only_item (subst (λ (ns : List ℕ). IsIn c.number ns) g.one_child c.listed) in
      let so = c.made_label.same in
      let t = c.made_label.settled in
      let derivable : AllDerivable t.so.skeleton = subst (λ (x : Made). AllDerivable x.skeleton) (sym so) (is_fit g.generalises).realised in
      let skeleton : g.generalisation ≡ c.made_label.label.skeleton = sym (where_derivable protocol variables limits roots tree from c.number c.made_label.label t derivable ∙ ap (λ (x : Made). x.skeleton) so) in
      let same : s.so.skeleton ≡ l.skeleton = sym (where_derivable protocol variables limits roots tree from i l s g.realised) in
      record {
        realised = subst AllDerivable same g.realised;
        number = g.number;
        one_child = g.one_child;
        child = c.made_label.label;
        at = ap (item_at tree.labels) (sym number) ∙ c.made_label.at;
        operation = (of_made_here protocol variables limits roots tree from c.number c.made_label.label t).operation ∙ ap (λ (x : Made). x.operation) so;
        generalises = subst (λ (x : Skeleton). GeneralisesTo l.skeleton x) skeleton (subst (λ (x : Skeleton). GeneralisesTo x g.generalisation) same g.generalises);
      }

  pub generalised_cause : (i : ℕ) (l : Label) → item_at tree.labels i ≡ Some l → l.mark ≡ None → l.test ≡ None → IsGeneralised tree.labels l
  generalised_cause i l at e t =
      let s = settled i l at in
      let g = goes_on i s.expanded_before s.so l s.gives (here_is i l s) e t in
      child_of i l s g (given_labels protocol variables limits roots tree from i l s (made_of_generalisation i g.generalisation) g.listed)

  -- ---- limits

  pub strands_cause : (i : ℕ) (l : Label) → item_at tree.labels i ≡ Some l → l.mark ≡ Some limit_strands → IsUnrealised l.skeleton × (limits.strands < length l.skeleton.strands) × IsLeafLabel l
  strands_cause i l at e =
      let s = settled i l at in
      let r = strands_says protocol limits links from.candidates i s.expanded_before s.so l s.gives (here_is i l s) e in
      (r.0, r.1, leaf i l limit_strands at e (λ q. cc))

  pub steps_cause : (i : ℕ) (l : Label) → item_at tree.labels i ≡ Some l → l.mark ≡ Some limit_steps → IsUnrealised l.skeleton × (length l.skeleton.strands ≤ limits.strands) × (expanded_count tree.labels ≡ limits.steps) × IsLeafLabel l
  steps_cause i l at e =
      let s = settled i l at in
      let r = steps_says protocol limits links from.candidates i s.expanded_before s.so l s.gives (here_is i l s) e in
      (r.unrealised, r.within, count_reached protocol variables limits roots tree from i l at e, leaf i l limit_steps at e (λ q. cc))
