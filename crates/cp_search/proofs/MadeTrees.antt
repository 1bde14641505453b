-- The trees that are made of searches.
use Rattle.std.proofs.Common.{◌≡◌, List, length, map, Result, Ok, Err, IfOk}
use Rattle.cp_lists.specs.Lists.{IsIn}
use Rattle.cp_model.specs.Strand.{Protocol}
use Rattle.cp_model.specs.declared.variable.Declaration.{Declaration}
use Rattle.cp_model.specs.Tree.{Tree}
use Rattle.cp_model.specs.declared.tree.Mark.{Mark}
use Rattle.cp_model.specs.declared.tree.Limits.{Limits}
use Rattle.cp_roots.specs.declared.root.Root.{Root}
use Rattle.cp_tree.specs.Searched.{HasOutcome, IsTreeFrom}
use Rattle.cp_tree.specs.Made.{made_of_root}
use Rattle.cp_search.specs.declared.label_search.Search.{Search}
use Rattle.cp_search.specs.Candidates.{open_from}
use Rattle.cp_search.specs.TreeLabels.{labels_with, AreCandidateMarks}
use Rattle.cp_search.specs.ResolvedLabels.{HasSearched}
use Rattle.cp_search.proofs.FoundTrees.{is_tree}

pub if_made : {E : Type 0} (protocol : Protocol) (variables : List Declaration) (limits : Limits) (roots : List Root) (s : Search) → HasSearched protocol limits (map made_of_root roots) s → length s.settled.items ≡ length s.queue.made
    → ((root : Root) → IsIn root roots → root.skeleton.variables ≡ variables) → (is : Tree → Type 0) → ((t : Tree) → IsTreeFrom protocol variables limits roots t → is t) → (r : Result Tree E)
    → IfOk r (λ t. (marks : List Mark) × AreCandidateMarks (open_from 0 s.queue.made s.settled.items) marks × (t.labels ≡ labels_with s.queue.made s.settled.items marks)) → IfOk r (λ t. HasOutcome t.labels t.outcome)
    → IfOk r (λ t. is t)
if_made protocol variables limits roots s searched all named is law (Ok t) labels outcome =
    law t (is_tree protocol limits roots s.queue.made s.settled.items s.expanded searched all labels.0 labels.1 variables named t labels.2 outcome)
if_made protocol variables limits roots s searched all named is law (Err e) labels outcome = tt
