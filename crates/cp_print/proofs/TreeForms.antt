-- The forms of a tree in two parts.
use Rattle.std.proofs.Common.{◌≡◌, ℕ, Bool, List, [], ◌∷◌, ◌++◌, sym, ap₂}
use Rattle.cp_model.specs.Tree.{Tree, Label}
use Rattle.cp_language.specs.Problems.{Problem}
use Rattle.cp_language.specs.Names.{problem_names}
use Rattle.cp_language.specs.Report.{status_form}
use Rattle.cp_language.specs.ShapesText.{chosen_from, chosen_tree_forms}

-- the chosen labels of a tree, and its status
pub tree_parts : (chosen : Label → Bool) (p : Problem) (t : Tree) (names : List (List ℕ)) (labels : List Label)
    → names ≡ problem_names p.declared p.variables → labels ≡ t.labels → chosen_tree_forms chosen p t ≡ chosen_from chosen names 0 labels ++ status_form t ∷ []
tree_parts chosen p t names labels f l = ap₂ (λ (xs : List (List ℕ)) (ls : List Label). chosen_from chosen xs 0 ls ++ status_form t ∷ []) (sym f) (sym l)
