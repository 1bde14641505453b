-- The status of a tree.
use Rattle.std.proofs.Common.{◌≡◌, ℕ, List, [], ◌∷◌, ◌++◌, length, codes, ap, ◌∙◌}
use Rattle.cp_model.specs.Tree.{Label, Tree, expanded_count}
use Rattle.cp_sexpr.specs.Syntax.{Form}
use Rattle.cp_language.specs.Printed.{word, numeral, headed_list}
use Rattle.cp_language.specs.Report.{outcome_words, shape_count, status_form}

module _ (t : Tree) where
  abbrev pub status_by : ℕ → ℕ → ℕ → Form
  status_by n e s = headed_list (codes "status") (outcome_words t.outcome
      ++ word (codes "labels") ∷ numeral n ∷ word (codes "expanded") ∷ numeral e ∷ word (codes "shapes") ∷ numeral s ∷ [])

  pub status_is : (labels : List Label) (n e s : ℕ) → labels ≡ t.labels → n ≡ length labels → e ≡ expanded_count labels → s ≡ shape_count labels → status_by n e s ≡ status_form t
  status_is labels n e s l i j k =
      ap (λ (m : ℕ). status_by m e s) (i ∙ ap length l)
      ∙ ap (λ (m : ℕ). status_by (length t.labels) m s) (j ∙ ap expanded_count l)
      ∙ ap (λ (m : ℕ). status_by (length t.labels) (expanded_count t.labels) m) (k ∙ ap shape_count l)
