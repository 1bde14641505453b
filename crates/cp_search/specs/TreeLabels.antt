-- Labels of trees.
use Rattle.std.specs.Prelude.{◌≡◌, ℕ, List, [], ◌∷◌, length, Option, Some, None}
use Rattle.cp_lists.specs.Lists.{item_at}
use Rattle.cp_model.specs.Tree.{Label}
use Rattle.cp_model.specs.declared.tree.Mark.{Mark}
use Rattle.cp_tree.specs.Candidates.{Candidate}
use Rattle.cp_tree.specs.Searched.{IsMarkedAmong}
use Rattle.cp_search.specs.declared.made.Made.{Made}
use Rattle.cp_search.specs.declared.resolved.Resolved.{Resolved}
use Rattle.cp_search.specs.declared.resolved.Resolved.TheVariants as settled
use Rattle.cp_search.specs.ResolvedLabels.{leaf_label, generalised_label, expanded_label}

-- Each candidate has its mark.
pub record AreCandidateMarks (candidates : List Candidate) (marks : List Mark) : Type 0 where
  pub count : length marks ≡ length candidates
  pub each : (p : ℕ) (c : Candidate) (mark : Mark) → item_at candidates p ≡ Some c → item_at marks p ≡ Some mark → IsMarkedAmong candidates c.number (Some mark)

-- The label that was made so and of which this has become, with this mark where its own is open.
abbrev pub label_with : Made → Resolved → Option Mark → Label
label_with m (settled.Leaf None) mark = leaf_label m mark
label_with m (settled.Leaf (Some own)) mark = leaf_label m (Some own)
label_with m (settled.Generalised child) mark = generalised_label m child
label_with m (settled.Expanded e) mark = expanded_label m e

-- The labels that were made so and of which this has become, where those that may be shapes have these marks, in their order.
abbrev pub labels_with : List Made → List Resolved → List Mark → List Label
labels_with (m ∷ ms) (settled.Leaf None ∷ ss) (mark ∷ marks) = leaf_label m (Some mark) ∷ labels_with ms ss marks
labels_with (m ∷ ms) (settled.Leaf None ∷ ss) [] = leaf_label m None ∷ labels_with ms ss []
labels_with (m ∷ ms) (settled.Leaf (Some mark) ∷ ss) marks = leaf_label m (Some mark) ∷ labels_with ms ss marks
labels_with (m ∷ ms) (settled.Generalised child ∷ ss) marks = generalised_label m child ∷ labels_with ms ss marks
labels_with (m ∷ ms) (settled.Expanded e ∷ ss) marks = expanded_label m e ∷ labels_with ms ss marks
labels_with _ _ _ = []
