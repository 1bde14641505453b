-- Each label of a tree from sound roots is sound, or was made by generalising from one that is.
use Rattle.std.proofs.Common.{◌≡◌, ◌⊎◌, inl, inr, ℕ, zero, suc, ◌<◌, List, ◌++◌, length, map, false, Some, None, refl, sym, ap, ◌∙◌, subst, ⊎_elim, arith}
use Rattle.cp_lists.specs.Lists.{item_at, IsIn}
use Rattle.cp_lists.proofs.Items.{item_of_map, front_or_behind, at_place}
use Rattle.cp_model.specs.Strand.{Protocol}
use Rattle.cp_model.specs.declared.variable.Declaration.{Declaration}
use Rattle.cp_model.specs.Skeleton.{Skeleton}
use Rattle.cp_model.specs.Realisation.{AllDerivable}
use Rattle.cp_model.specs.PointOfView.{HasDeclaredVariables}
use Rattle.cp_model.specs.Tree.{Label, Tree}
use Rattle.cp_model.specs.declared.tree.Limits.{Limits}
use Rattle.cp_skel.specs.Tables.{DiffersInTable}
use Rattle.cp_roots.specs.declared.root.Root.{Root}
use Rattle.cp_roots.specs.Sound.{AreSound}
use Rattle.cp_tree.specs.Made.{Made, made_of_root, link_of}
use Rattle.cp_tree.specs.Searched.{IsMarkedAmong, IsTreeFrom}
use Rattle.cp_tree.proofs.Cases.{Becomes, is_dead, is_seen, is_realised, is_generalised, above_bound, at_limit, is_tested}
use Rattle.cp_tree.specs.Sound.{IsSoundMade, ExpandsSoundly}
use Rattle.cp_tree.proofs.Settled.{IsOfMade, of_made, unexpanded, IsMadeOfChild, IsMadeOfGeneralisation, IsSettledAt, settled_at, label_of_made, made_from}
use Rattle.cp_tree.proofs.MarksSay.{not_both}
use Rattle.cp_tree.proofs.SoundOrGeneralised.{IsSoundLabel, where_unrealised, where_further}

-- What was made of a sound root is sound.
root_is_sound : (protocol : Protocol) (variables : List Declaration) (k : Skeleton) (roots : List Root) → AreSound protocol k roots → ((i : ℕ) (root : Root) → item_at roots i ≡ Some root → HasDeclaredVariables variables root.skeleton)
    → ((root : Root) → IsIn root roots → root.skeleton.variables ≡ variables) → (i : ℕ) (root : Root) → item_at roots i ≡ Some root → IsSoundMade protocol k (made_of_root root)
root_is_sound protocol variables k roots sound declared have i root at = record {
  skeleton = sound.skeletons i root at;
  from_problem = sound.from_problem i root at;
  stated = sound.stated i root at;
  declared = subst (λ (ds : List Declaration). HasDeclaredVariables ds root.skeleton) (sym (have root (at_place roots i root at))) (declared i root at);
  assumptions = sound.assumptions i root at;
  nowhere = sound.nowhere i root at;
}

module _ (protocol : Protocol) (variables : List Declaration) (limits : Limits) (roots : List Root) (tree : Tree) (from : IsTreeFrom protocol variables limits roots tree) where
  -- What the labels are made so.
  abbrev pub made : List Made
  made = map made_of_root roots ++ from.children

  abbrev pub SettledHere : ℕ → Label → Type 0
  SettledHere = IsSettledAt protocol limits (map link_of tree.labels) (IsMarkedAmong from.candidates) 0 0 (length roots) made tree.labels from.children

  -- What became of label number i.
  pub settled_here : (i : ℕ) (l : Label) → item_at tree.labels i ≡ Some l → SettledHere i l
  settled_here i l at = settled_at protocol limits (map link_of tree.labels) (IsMarkedAmong from.candidates) 0 0 (length roots) made tree.labels from.children from.settled from.numbers i l at

  pub label_here : (i : ℕ) (m : Made) → item_at made i ≡ Some m → (l : Label) × (item_at tree.labels i ≡ Some l)
  label_here i m at = label_of_made protocol limits (map link_of tree.labels) (IsMarkedAmong from.candidates) 0 0 made tree.labels from.children from.settled i m at

  -- What was made so at a number is what the label there was made as.
  pub same_made : (i : ℕ) (l : Label) (m : Made) (s : SettledHere i l) → item_at made i ≡ Some m → s.so ≡ m
  same_made i l m s at = let e : Some s.so ≡ Some m = sym s.at_made ∙ at in cc

  -- The label at a number, where that was made so.
  pub record HasMadeLabel (i : ℕ) (m : Made) : Type 0 where
    pub label : Label
    pub at : item_at tree.labels i ≡ Some label
    pub settled : SettledHere i label
    pub same : settled.so ≡ m

  pub made_label : (i : ℕ) (m : Made) → item_at made i ≡ Some m → HasMadeLabel i m
  made_label i m at =
      let l = label_here i m at in
      let s = settled_here i l.0 l.1 in
      record { label = l.0; at = l.1; settled = s; same = same_made i l.0 m s at }

  -- What the label at its number became.
  abbrev pub BecomesHere : ℕ → ℕ → Made → Label → List Made → Type 0
  BecomesHere = Becomes protocol limits (map link_of tree.labels) (IsMarkedAmong from.candidates)

  pub becomes_here : (i : ℕ) (l : Label) (s : SettledHere i l) → BecomesHere i s.expanded_before s.so l s.gives
  becomes_here i l s = let same : s.number ≡ i = (let w = s.number_is in omega (arith, w)) in subst (λ (n : ℕ). BecomesHere n s.expanded_before s.so l s.gives) same s.becomes

  pub of_made_here : (i : ℕ) (l : Label) (s : SettledHere i l) → IsOfMade protocol limits (map link_of tree.labels) (IsMarkedAmong from.candidates) s.expanded_before s.so l s.gives
  of_made_here i l s = of_made protocol limits (map link_of tree.labels) (IsMarkedAmong from.candidates) i s.expanded_before s.so l s.gives (becomes_here i l s)

  -- A label has the skeleton with which it was made, where it was expanded with more variables.
  pub skeleton_here : (i : ℕ) (l : Label) (s : SettledHere i l) → DiffersInTable s.so.skeleton l.skeleton
  skeleton_here i l s = (of_made_here i l s).skeleton

  pub same_here : (i : ℕ) (l : Label) (s : SettledHere i l) → l.test ≡ None → l.skeleton ≡ s.so.skeleton
  same_here i l s none = (unexpanded protocol limits (map link_of tree.labels) (IsMarkedAmong from.candidates) s.expanded_before s.so l s.gives (of_made_here i l s) none).same

  derivable_by : (i before : ℕ) (m : Made) (l : Label) (gives : List Made) → BecomesHere i before m l gives → AllDerivable m.skeleton → l.skeleton ≡ m.skeleton
  derivable_by i before m l gives (is_dead d) all = refl
  derivable_by i before m l gives (is_seen d u s) all = refl
  derivable_by i before m l gives (is_realised d n a y s) all = refl
  derivable_by i before m l gives (is_generalised d n a w) all = refl
  derivable_by i before m l gives (above_bound d n u r b) all = refl
  derivable_by i before m l gives (at_limit d n u r b e) all = refl
  derivable_by i before m l gives (is_tested d n u r b c x s) all = absurd (not_both m.skeleton r all)

  -- One that is realised was not expanded.
  pub where_derivable : (i : ℕ) (l : Label) (s : SettledHere i l) → AllDerivable s.so.skeleton → l.skeleton ≡ s.so.skeleton
  where_derivable i l s all = derivable_by i s.expanded_before s.so l s.gives (becomes_here i l s) all

  pub parent_here : (i : ℕ) (l : Label) (s : SettledHere i l) → l.parent ≡ s.so.parent
  parent_here i l s = (of_made_here i l s).parent

  -- What was made from a label comes behind it.
  pub comes_behind : (i j : ℕ) (m : Made) → item_at made j ≡ Some m → m.parent ≡ Some i → i < j
  comes_behind i j m at e =
      let h = made_label j m at in
      from.parents_first i j h.label h.at (parent_here j h.label h.settled ∙ ap (λ (x : Made). x.parent) h.same ∙ e)

  module _ (k : Skeleton) (sound : AreSound protocol k roots) (declared : (i : ℕ) (root : Root) → item_at roots i ≡ Some root → HasDeclaredVariables variables root.skeleton) (expands : ExpandsSoundly protocol k) where
    -- So is what is made from a label that is sound, or was made by generalising.
    made_is_sound : (number : ℕ) (so m : Made) → so.dead ≡ false → IsMadeOfChild protocol limits (map link_of tree.labels) (IsMarkedAmong from.candidates) number so m ⊎ IsMadeOfGeneralisation protocol limits (map link_of tree.labels) (IsMarkedAmong from.candidates) number so m
        → IsSoundLabel protocol k so → IsSoundLabel protocol k m
    made_is_sound number so m lives (inl c) s =
        inl (subst (IsSoundMade protocol k) c.is_made ((expands so c.expansion (where_unrealised protocol k so s c.unrealised) lives c.unrealised c.is_expansion).children number c.child c.listed))
    made_is_sound number so m lives (inr c) s =
        inr (record { so = so; sound = where_further protocol k so c.skeleton s c.generalises; lives = lives; skeleton = c.skeleton; generalises = c.generalises; number = number; is_made = c.is_made })

    pub sound_below : (n i : ℕ) (m : Made) → i < n → item_at made i ≡ Some m → IsSoundLabel protocol k m
    sound_below zero i m l at = absurd (omega (arith, l))
    sound_below (suc n) i m l at =
        ⊎_elim
        (λ (front : item_at (map made_of_root roots) i ≡ Some m).
        let r = item_of_map made_of_root roots i m front in
        inl (subst (IsSoundMade protocol k) r.2 (root_is_sound protocol variables k roots sound declared from.declared i r.0 r.1)))
        (λ (listed : IsIn m from.children).
        let f = made_from protocol limits (map link_of tree.labels) (IsMarkedAmong from.candidates) 0 0 made tree.labels from.children from.settled m listed in
        let number : f.number ≡ f.place = (let w = f.number_is in omega (arith, w)) in
        let parent : m.parent ≡ Some f.place = f.is_made.parent ∙ ap Some number in
        let before : f.place < i = comes_behind f.place i m at parent in
        made_is_sound f.number f.so m f.is_made.lives f.is_made.way (sound_below n f.place f.so (omega (arith, l, before)) f.at_made))
        (front_or_behind (map made_of_root roots) from.children i m at)

    -- Each label is.
    pub label_sound : (i : ℕ) (l : Label) → item_at tree.labels i ≡ Some l → (s : SettledHere i l) → IsSoundLabel protocol k s.so
    label_sound i l at s = sound_below (suc i) i s.so (omega arith) s.at_made
