-- The label forms of a tree, and what ends it.
use Rattle.std.proofs.Common.{◌≡◌, ℕ, suc, ◌+◌, ◌<◌, ◌≤◌, List, [], ◌∷◌, ◌++◌, length, get_or, map, drop, refl, sym, ap, ◌∙◌, add-one}
use Rattle.std.specs.Prelude.{Option, Some, None, option_map}
use Rattle.std.proofs.lemmas.List.{drop_all}
use Rattle.cp_lists.proofs.Members.{drop_read}
use Rattle.cp_base.specs.declared.place.Place.{Place}
use Rattle.cp_sexpr.specs.Syntax.{Form}
use Rattle.cp_sexpr.specs.View.{view}
use Rattle.cp_sexpr.specs.declared.form.Form as program
use Rattle.cp_language.specs.Problems.{Problem}
use Rattle.cp_report.specs.Labels.{label_misfits, label_of}
use Rattle.cp_report.specs.ReadBack.{labels_misfits, places_of, if_whole, ending_misfits, labels_in_front, behind_labels, tree_misfits}
use Rattle.cp_spelled.specs.FirstMisfit.{first_onto}
use Rattle.cp_report.specs.Misfits.{place_before}
use Rattle.cp_scope.proofs.FirstOf.{first_onto-append, first_then}
use Rattle.cp_readback.specs.Counts.{AreCountsIn, ending_form_misfits}
use Rattle.cp_readback.specs.declared.status.Counts.{Counts}
use Rattle.cp_readback.proofs.Counted.{counts_are, status_is}

module _ (p : Problem) (tree : Option (List Form)) (fs : List program.Form) (k : ℕ) where
  pub label-taken : (f : program.Form) → k < length fs → f ≡ get_or fs k f → (o q all : Option Place) → q ≡ first_onto o (label_misfits p tree k (view f))
      → first_onto o (labels_misfits p tree k (map view (drop k fs))) ≡ all → first_onto q (labels_misfits p tree (k + 1) (map view (drop (k + 1) fs))) ≡ all
  label-taken f h e o q all g i =
      let rest = map view (drop (k + 1) fs) in
      ap (λ n. first_onto q (labels_misfits p tree n rest)) (add-one k) ∙ ap (λ x. first_onto x (labels_misfits p tree (suc k) rest)) g
      ∙ sym (first_onto-append place_before o (label_misfits p tree k (view f)) (labels_misfits p tree (suc k) rest))
      ∙ sym (ap (λ gs. first_onto o (labels_misfits p tree k (map view gs))) (drop_read fs k f h e)) ∙ i

  pub labels-done : length fs ≤ k → (o all : Option Place) → first_onto o (labels_misfits p tree k (map view (drop k fs))) ≡ all → o ≡ all
  labels-done h o all i = sym (ap (λ gs. first_onto o (labels_misfits p tree k (map view gs))) (drop_all k fs h)) ∙ i

-- what ends a tree is judged by the counts of its label forms
pub ending-is : (p : Problem) (labels : List Form) (c : Counts) → AreCountsIn labels c → (next : Place) (fs : List Form) → ending_form_misfits c next fs ≡ ending_misfits (map (label_of p) labels) next fs
ending-is p labels c a next [] = refl
ending-is p labels c a next (f ∷ fs) = ap (λ ps. ps ++ places_of fs) (status_is (map (label_of p) labels) c (counts_are p labels c a) f)

-- the labels of a tree, and then what ends it
pub tree-asked : (p : Problem) (next : Place) (behind labels ending : List Form) (tree : Option (List Form)) (c : Counts) (o q r : Option Place)
    → labels ≡ labels_in_front behind → ending ≡ behind_labels behind → tree ≡ if_whole labels ending → AreCountsIn labels c
    → q ≡ first_onto o (labels_misfits p tree 0 labels) → r ≡ first_onto q (ending_form_misfits c next ending) → r ≡ first_onto o (tree_misfits (Some p) next behind)
tree-asked p next behind labels ending tree c o q r is_front is_ending is_tree counted g h =
    first_then place_before o q r (labels_misfits p tree 0 labels) (ending_misfits (map (label_of p) labels) next ending) g (h ∙ ap (first_onto q) (ending-is p labels c counted next ending))
    ∙ ap (λ t. first_onto o (labels_misfits p t 0 labels ++ ending_misfits (map (label_of p) labels) next ending)) is_tree
    ∙ ap (λ ls. first_onto o (labels_misfits p (if_whole ls ending) 0 ls ++ ending_misfits (map (label_of p) ls) next ending)) is_front
    ∙ ap (λ es. first_onto o (labels_misfits p (if_whole (labels_in_front behind) es) 0 (labels_in_front behind) ++ ending_misfits (map (label_of p) (labels_in_front behind)) next es)) is_ending

-- what a borrowed item is read as
pub through : {A B C : Type 0} (f : A → B) (g : B → C) (o : Option A) → option_map (λ x. g (f x)) o ≡ option_map g (option_map f o)
through f g None = refl
through f g (Some x) = refl
