-- Labels of a tree are put together one by one.
use Rattle.std.proofs.Common.{◌≡◌, ℕ, suc, ◌+◌, ◌<◌, ◌≤◌, List, [], ◌∷◌, ◌++◌, length, drop, get_or, reverse, Option, Some, sym, ap, subst, ◌∙◌, refl}
use Rattle.std.proofs.lemmas.List.{append_assoc, drop_all}
use Rattle.cp_lists.specs.Lists.{IsIn, here, there}
use Rattle.cp_lists.proofs.Items.{at_place, item_of_read}
use Rattle.cp_lists.proofs.Members.{drop_read}
use Rattle.cp_model.specs.declared.tree.Mark.{Mark}
use Rattle.cp_model.specs.Tree.{Label}
use Rattle.cp_skel.specs.Tables.{DiffersInTable}
use Rattle.cp_tree.specs.Searched.{IsMarked}
use Rattle.cp_search.specs.declared.made.Made.{Made}
use Rattle.cp_search.specs.declared.resolved.Resolved.{Resolved}
use Rattle.cp_search.specs.declared.resolved.Resolved.TheVariants as settled
use Rattle.cp_search.specs.declared.expanded.Expanded.{Expanded}
use Rattle.cp_search.specs.TreeLabels.{label_with, labels_with}
use Rattle.cp_search.specs.ResolvedLabels.{AreExpandedOf}

-- The labels so far with those of the rest are all; of the rests, the marks alone are kept last first.
pub record AreLabelledSoFar (all : List Label) (labels : List Label) (ms : List Made) (ss : List Resolved) (marks : List Mark) : Type 0 where
  pub told : labels ++ labels_with ms ss (reverse marks) ≡ all
  pub tables : AreExpandedOf ms ss

module _ (all : List Label) (labels : List Label) (ms ms' : List Made) (ss ss' : List Resolved) (marks : List Mark) (m : Made) (s : Resolved) (so_far : AreLabelledSoFar all labels ms ss marks) (m_first : ms ≡ m ∷ ms') (s_first : ss ≡ s ∷ ss') where
  both : AreExpandedOf (m ∷ ms') (s ∷ ss')
  both = subst (λ (xs : List Resolved). AreExpandedOf (m ∷ ms') xs) s_first (subst (λ (xs : List Made). AreExpandedOf xs ss) m_first so_far.tables)

  pub same_here : (e : Expanded) → s ≡ settled.Expanded e → DiffersInTable m.skeleton e.skeleton
  same_here e is = both 0 m e refl (ap (λ x. Some x) is)

  pub next_labelled : (mark : Option Mark) (marks' : List Mark)
      → ((x : Made) (xs : List Made) (ys : List Resolved) → labels_with (x ∷ xs) (s ∷ ys) (reverse marks) ≡ label_with x s mark ∷ labels_with xs ys (reverse marks'))
      → (t : Label) → t ≡ label_with m s mark → (new : List Label) → new ≡ labels ++ t ∷ [] → AreLabelledSoFar all new ms' ss' marks'
  next_labelled mark marks' marked t is new pushed =
      let rest = labels_with ms' ss' (reverse marks') in
      let taken : labels_with ms ss (reverse marks) ≡ t ∷ rest =
      ap (λ (xs : List Made). labels_with xs ss (reverse marks)) m_first
      ∙ (ap (λ (xs : List Resolved). labels_with (m ∷ ms') xs (reverse marks)) s_first
      ∙ (marked m ms' ss' ∙ ap (λ (l : Label). l ∷ rest) (sym is))) in
      record {
        told =
            ap (λ (xs : List Label). xs ++ rest) pushed ∙ (append_assoc labels (t ∷ []) rest ∙ (ap (λ (ls : List Label). labels ++ ls) (sym taken) ∙ so_far.told));
        tables = λ i x e at au. both (suc i) x e at au;
      }

-- ---- labels with a mark

module _ (mark : Mark) where
  abbrev HasIt : List Label → Type 0
  HasIt labels = IsMarked labels mark

  without : (l : Label) (ls : List Label) → (l.mark ≡ Some mark → ⊥) → HasIt (l ∷ ls) → HasIt ls
  without l ls other h = by h.0 h.1 h.2
    where
      by : (x : Label) → IsIn x (l ∷ ls) → x.mark ≡ Some mark → HasIt ls
      by x here e = absurd (other e)
      by x (there i) e = (x, i, e)

  pub marked_here : (labels : List Label) (i : ℕ) (l : Label) → i < length labels → l ≡ get_or labels i l → l.mark ≡ Some mark → IsMarked labels mark
  marked_here labels i l lt is e =
      (l, at_place labels i l (item_of_read labels i l lt is), e)

  -- If some label has the mark, one of those from place i on does.
  abbrev pub IsAmongRest : List Label → ℕ → Type 0
  IsAmongRest labels i = IsMarked labels mark → IsMarked (drop i labels) mark

  pub not_here : (labels : List Label) (i : ℕ) (l : Label) → i < length labels → l ≡ get_or labels i l → (l.mark ≡ Some mark → ⊥) → IsAmongRest labels i → IsAmongRest labels (i + 1)
  not_here labels i l lt is other so_far h = without l (drop (i + 1) labels) other (subst HasIt (drop_read labels i l lt is) (so_far h))

  nowhere : HasIt [] → ⊥
  nowhere h = elim h.1 [ ]

  pub none_marked : (labels : List Label) (i : ℕ) → length labels ≤ i → IsAmongRest labels i → IsMarked labels mark → ⊥
  none_marked labels i done so_far h = nowhere (subst HasIt (drop_all i labels done) (so_far h))
