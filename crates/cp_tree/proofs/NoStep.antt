-- Where no step may be made each label is that of a root, or was made by generalising from one of these.
use Rattle.std.proofs.Common.{◌≡◌, ◌⊎◌, inl, inr, ℕ, ◌<◌, List, map, Option, Some, None, sym, ap, ◌∙◌, subst, ⊎_elim, arith}
use Rattle.cp_lists.specs.Lists.{item_at}
use Rattle.cp_lists.proofs.Items.{at_place, item_of_map, front_or_behind}
use Rattle.cp_model.specs.Strand.{Protocol}
use Rattle.cp_model.specs.declared.variable.Declaration.{Declaration}
use Rattle.cp_model.specs.Skeleton.{Skeleton}
use Rattle.cp_model.specs.Tree.{Label, Tree}
use Rattle.cp_model.specs.declared.tree.Mark.{Mark}
use Rattle.cp_model.specs.declared.tree.Limits.{Limits}
use Rattle.cp_roots.specs.declared.root.Root.{Root}
use Rattle.cp_general.specs.Generalisation.{IsMaximallyGeneral, GeneralisesTo}
use Rattle.cp_general.proofs.SoundGeneralisations.{is_most_general, same_table}
use Rattle.cp_tree.specs.Made.{Made, made_of_root, LabelLink, link_of}
use Rattle.cp_tree.specs.Searched.{IsMarkedAmong, IsTreeFrom}
use Rattle.cp_tree.specs.Placed.{IsGeneralisedRoot, IsOfRoot, AreRootsGeneralised}
use Rattle.cp_tree.proofs.GeneralisedOnce.{not_further}
use Rattle.cp_tree.proofs.Placed.{label_of_root, roots_are_first}
use Rattle.cp_tree.proofs.Settled.{IsUnexpanded, IsExpanded, IsOfMade, IsMadeOfChild, IsMadeOfGeneralisation, IsMadeFromOne, made_from}
use Rattle.cp_tree.proofs.SoundLabels.{made, SettledHere, settled_here, of_made_here}

module _ (protocol : Protocol) (limits : Limits) (links : List LabelLink) (marks : ℕ → Option Mark → Type 0) (none : limits.steps ≡ 0) where
  unexpanded_way : (before : ℕ) (m : Made) (l : Label) (gives : List Made) → IsOfMade protocol limits links marks before m l gives → IsUnexpanded protocol limits links marks m l
  unexpanded_way before m l gives is =
      ⊎_elim (λ (u : IsUnexpanded protocol limits links marks m l). u) (λ (e : IsExpanded protocol limits links marks before m l). absurd (let a : before < limits.steps = e.allowed in omega (arith, a, none))) is.way

  generalised_way : (i : ℕ) (m x : Made) → IsMadeOfChild protocol limits links marks i m x ⊎ IsMadeOfGeneralisation protocol limits links marks i m x → IsMadeOfGeneralisation protocol limits links marks i m x
  generalised_way i m x (inl c) = absurd (let l : 0 < limits.steps = c.allowed in omega (arith, l, none))
  generalised_way i m x (inr c) = c

module _ (protocol : Protocol) (variables : List Declaration) (limits : Limits) (roots : List Root) (tree : Tree) (from : IsTreeFrom protocol variables limits roots tree) (none : limits.steps ≡ 0) where
  abbrev links : List LabelLink
  links = map link_of tree.labels

  abbrev marks : ℕ → Option Mark → Type 0
  marks = IsMarkedAmong from.candidates

  abbrev MadeHere : List Made
  MadeHere = made protocol variables limits roots tree from

  abbrev Settled : ℕ → Label → Type 0
  Settled = SettledHere protocol variables limits roots tree from

  unexpanded_here : (i : ℕ) (l : Label) (s : Settled i l) → IsUnexpanded protocol limits links marks s.so l
  unexpanded_here i l s = unexpanded_way protocol limits links marks none s.expanded_before s.so l s.gives (of_made_here protocol variables limits roots tree from i l s)

  unexpanded : (i : ℕ) (l : Label) → item_at tree.labels i ≡ Some l → l.test ≡ None
  unexpanded i l at = (unexpanded_here i l (settled_here protocol variables limits roots tree from i l at)).test

  -- What is made so is made of root number i.
  record IsRootMade (i : ℕ) (x : Made) : Type 0 where
    root : Root
    at : item_at roots i ≡ Some root
    is_made : made_of_root root ≡ x

  -- It is made by generalising from one of these.
  record IsMadeByGeneralising (x : Made) : Type 0 where
    place : ℕ
    so : Made
    at : item_at MadeHere place ≡ Some so
    parent : x.parent ≡ Some place
    generalised : IsMadeOfGeneralisation protocol limits links marks place so x

  from_one : (x : Made) → IsMadeFromOne protocol limits links marks 0 MadeHere x → IsMadeByGeneralising x
  from_one x f =
      let number : f.number ≡ f.place = (let w = f.number_is in omega (arith, w)) in
      let by : IsMadeOfGeneralisation protocol limits links marks f.number f.so x = generalised_way protocol limits links marks none f.number f.so x f.is_made.way in
      record {
        place = f.place;
        so = f.so;
        at = f.at_made;
        parent = f.is_made.parent ∙ ap Some number;
        generalised = subst (λ (n : ℕ). IsMadeOfGeneralisation protocol limits links marks n f.so x) number by;
      }

  root_or_generalised : (i : ℕ) (x : Made) → item_at MadeHere i ≡ Some x → IsRootMade i x ⊎ IsMadeByGeneralising x
  root_or_generalised i x at =
      ⊎_elim
      (λ (front : item_at (map made_of_root roots) i ≡ Some x). let r = item_of_map made_of_root roots i x front in inl (record { root = r.0; at = r.1; is_made = r.2 }))
      (λ listed. inr (from_one x (made_from protocol limits links marks 0 0 MadeHere tree.labels from.children from.settled x listed)))
      (front_or_behind (map made_of_root roots) from.children i x at)

  generalised_root : (i : ℕ) (l : Label) (s : Settled i l) (f : IsMadeByGeneralising s.so) → IsRootMade f.place f.so ⊎ IsMadeByGeneralising f.so → IsGeneralisedRoot variables roots l
  generalised_root i l s f (inl r) =
      let is : IsOfMade protocol limits links marks s.expanded_before s.so l s.gives = of_made_here protocol variables limits roots tree from i l s in
      let g = f.generalised in
      let so : made_of_root r.root ≡ f.so = r.is_made in
      let skeleton : g.skeleton ≡ l.skeleton = ap (λ (m : Made). m.skeleton) g.is_made ∙ sym (unexpanded_here i l s).same in
      let root : f.so.skeleton ≡ r.root.skeleton = ap (λ (m : Made). m.skeleton) (sym so) in
      record {
        number = f.place;
        root = r.root;
        at = r.at;
        parent = is.parent ∙ f.parent;
        operation = is.operation ∙ ap (λ (m : Made). m.operation) (sym g.is_made);
        declared = ap (λ (x : Skeleton). x.variables) (sym skeleton) ∙ same_table variables g.generalises (ap (λ (x : Skeleton). x.variables) root ∙ from.declared r.root (at_place roots f.place r.root r.at));
        generalises = subst (λ (x : Skeleton). GeneralisesTo r.root.skeleton x) skeleton (subst (λ (x : Skeleton). GeneralisesTo x g.skeleton) root g.generalises);
      }
  generalised_root i l s f (inr h) =
      let g = h.generalised in
      let same : g.skeleton ≡ f.so.skeleton = ap (λ (m : Made). m.skeleton) g.is_made in
      absurd (not_further (subst IsMaximallyGeneral same (is_most_general g.generalises)) f.generalised.generalises)

  each_label : (i : ℕ) (l : Label) (s : Settled i l) → IsRootMade i s.so ⊎ IsMadeByGeneralising s.so → IsOfRoot variables roots i l ⊎ IsGeneralisedRoot variables roots l
  each_label i l s (inl r) = inl (record { root = r.root; at = r.at; label = label_of_root protocol variables limits roots tree from i r.root l s (sym r.is_made) (at_place roots i r.root r.at) })
  each_label i l s (inr f) = inr (generalised_root i l s f (root_or_generalised f.place f.so f.at))

  pub roots_generalised : AreRootsGeneralised variables roots tree.labels
  roots_generalised = record {
    first = roots_are_first protocol variables limits roots tree from;
    unexpanded = unexpanded;
    each = λ i l at. let s = settled_here protocol variables limits roots tree from i l at in each_label i l s (root_or_generalised i s.so s.at_made);
  }
