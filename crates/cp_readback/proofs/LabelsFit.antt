-- Trees without misfits: what their labels are made of, and the tree that they are.
use Rattle.std.proofs.Common.{◌≡◌, ℕ, suc, ◌==◌, List, [], ◌∷◌, map, ap, ◌∙◌, subst}
use Rattle.std.specs.Prelude.{Option, Some}
use Rattle.cp_base.specs.declared.place.Place.{Place}
use Rattle.cp_lists.specs.Lists.{IsIn, here, there}
use Rattle.cp_lists.proofs.Appended.{none_in_both}
use Rattle.cp_model.specs.Tree.{Label, Tree}
use Rattle.cp_model.specs.declared.tree.Outcome.{Outcome}
use Rattle.cp_sexpr.specs.Syntax.{Form}
use Rattle.cp_language.specs.Faults.{place_of}
use Rattle.cp_language.specs.Problems.{Problem}
use Rattle.cp_report.specs.Misfits.{number_misfits}
use Rattle.cp_report.specs.Heads.{forms_after_head}
use Rattle.cp_report.specs.Labels.{behind_number, items_of_label, items_misfits, numbered_misfits, label_misfits, label_of}
use Rattle.cp_report.specs.ReadBack.{labels_misfits, if_whole, ending_misfits, labels_in_front, behind_labels, tree_misfits, tree_of}
use Rattle.cp_readback.specs.Counts.{outcome_in}
use Rattle.cp_readback.specs.Items.{HasFitting}
use Rattle.cp_readback.proofs.AllItems.{has-fitting}

module _ (p : Problem) (tree : Option (List Form)) where
  numbered_fit : (i : ℕ) (at : Place) (fs : List Form) → numbered_misfits p tree i at fs ≡ [] → HasFitting p (behind_number fs)
  numbered_fit i at [] e = absurd (cc)
  numbered_fit i at (f ∷ fs) e = has-fitting p tree i at (behind_number (f ∷ fs)) (none_in_both (number_misfits (λ n. n == i) f) (items_misfits p tree i at (behind_number (f ∷ fs))) e).1

  labels_fit : (i : ℕ) (fs : List Form) → labels_misfits p tree i fs ≡ [] → (f : Form) → IsIn f fs → HasFitting p (items_of_label f)
  labels_fit i [] e f m = elim m [ ]
  labels_fit i (g ∷ fs) e f here = numbered_fit i (place_of g) (forms_after_head g) (none_in_both (label_misfits p tree i g) (labels_misfits p tree (suc i) fs) e).0
  labels_fit i (g ∷ fs) e f (there m) = labels_fit (suc i) fs (none_in_both (label_misfits p tree i g) (labels_misfits p tree (suc i) fs) e).1 f m

module _ (p : Problem) (behind : List Form) where
  -- each label form of a tree without misfits has what a label is made of
  pub each-fits : (next : Place) (labels : List Form) → labels ≡ labels_in_front behind → tree_misfits (Some p) next behind ≡ [] → (f : Form) → IsIn f labels → HasFitting p (items_of_label f)
  each-fits next labels is e f m =
      let front = labels_in_front behind in
      let ending = behind_labels behind in
      labels_fit p (if_whole front ending) 0 front (none_in_both (labels_misfits p (if_whole front ending) 0 front) (ending_misfits (map (label_of p) front) next ending) e).0 f (subst (λ ls. IsIn f ls) is m)

  -- the labels and the outcome are those of the tree
  pub tree-is : (labels ending : List Form) (ls : List Label) (o : Outcome) → labels ≡ labels_in_front behind → ending ≡ behind_labels behind
      → ls ≡ map (label_of p) labels → o ≡ outcome_in ending → (let t : Tree = record { labels = ls; outcome = o } in t) ≡ tree_of p behind
  tree-is labels ending ls o front back are is =
      let all : ls ≡ map (label_of p) (labels_in_front behind) = are ∙ ap (map (label_of p)) front in
      let same : o ≡ (tree_of p behind).outcome = is ∙ ap outcome_in back in
      λ i. record { labels = all i; outcome = same i }
