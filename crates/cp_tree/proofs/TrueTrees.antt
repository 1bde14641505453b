-- The tree of a problem whose roots are sound is true of it.
use Rattle.std.proofs.Common.{◌≡◌, ℕ, List, Some}
use Rattle.cp_lists.specs.Lists.{item_at}
use Rattle.cp_model.specs.Strand.{Protocol}
use Rattle.cp_model.specs.declared.variable.Declaration.{Declaration}
use Rattle.cp_model.specs.Skeleton.{Skeleton}
use Rattle.cp_model.specs.Homomorphism.{IsCompleteList}
use Rattle.cp_model.specs.Problem.{numbers_from}
use Rattle.cp_model.specs.PointOfView.{HasDeclaredVariables}
use Rattle.cp_model.specs.Tree.{Label, Tree, shapes_of, skeletons_left, IsTrueOf}
use Rattle.cp_model.specs.declared.tree.Outcome.{Outcome}
use Rattle.cp_model.specs.declared.tree.Outcome.TheVariants.{Complete as complete}
use Rattle.cp_model.specs.declared.tree.Mark.TheVariants.{LimitSteps as limit_steps, LimitStrands as limit_strands}
use Rattle.cp_model.specs.declared.tree.Limits.{Limits}
use Rattle.cp_theory.specs.Lawful.{IsWithinLimits}
use Rattle.cp_theory.proofs.LabelDescents.{left_is_complete, shapes_are_complete}
use Rattle.cp_roots.specs.declared.root.Root.{Root}
use Rattle.cp_roots.specs.Sound.{AreSound}
use Rattle.cp_tree.specs.Searched.{IsMarked, HasOutcome, some_at_step_limit, some_at_strand_limit, none_at_limit, IsTreeFrom}
use Rattle.cp_tree.specs.Sound.{ExpandsSoundly, GeneralisesSoundly}
use Rattle.cp_tree.specs.Edges.{edges}
use Rattle.cp_tree.proofs.PassedStandings.{is_lawful, roots_cover}
use Rattle.cp_tree.proofs.ExactLimits.{exact_steps, exact_strands}
use Rattle.cp_tree.proofs.TreeShapes.{none_embeds_in_another, are_skeletons, labels_from_problem, labels_keep_stated, shapes_realised}

-- Where the outcome is complete no label is at a limit.
none_left : (labels : List Label) (outcome : Outcome) → HasOutcome labels outcome → outcome ≡ complete → (IsMarked labels limit_steps → ⊥) × (IsMarked labels limit_strands → ⊥)
none_left labels outcome (some_at_step_limit m) e = absurd (cc)
none_left labels outcome (some_at_strand_limit n m) e = absurd (cc)
none_left labels outcome (none_at_limit n m) e = (n, m)

module _ (protocol : Protocol) (variables : List Declaration) (limits : Limits) (roots : List Root) (tree : Tree) (from : IsTreeFrom protocol variables limits roots tree)
    (k : Skeleton) (sound : AreSound protocol k roots) (declared : (i : ℕ) (root : Root) → item_at roots i ≡ Some root → HasDeclaredVariables variables root.skeleton) (expands : ExpandsSoundly protocol k)
    (generalises : GeneralisesSoundly protocol k) where
  within_limits : tree.outcome ≡ complete → IsWithinLimits tree.labels
  within_limits e =
      let n = none_left tree.labels tree.outcome from.outcome e in
      record { within_steps = λ l listed q. n.0 (l, listed, q); within_strands = λ l listed q. n.1 (l, listed, q) }

  left_complete : IsCompleteList protocol k (skeletons_left tree.labels)
  left_complete = left_is_complete protocol k tree.labels (edges tree.labels) (numbers_from 0 roots) (is_lawful protocol variables limits roots tree from k sound declared expands)
      (roots_cover protocol variables limits roots tree from k sound declared expands)

  shapes_complete : tree.outcome ≡ complete → IsCompleteList protocol k (shapes_of tree.labels)
  shapes_complete e = shapes_are_complete protocol k tree.labels (edges tree.labels) (numbers_from 0 roots) (is_lawful protocol variables limits roots tree from k sound declared expands)
      (roots_cover protocol variables limits roots tree from k sound declared expands) (within_limits e)

  pub true_of : IsTrueOf protocol k limits tree
  true_of = record {
    labels = λ i l at. record {
      skeleton = are_skeletons protocol variables limits roots tree from k sound declared expands i l at;
      from_problem = labels_from_problem protocol variables limits roots tree from k sound declared expands generalises i l at;
      stated = labels_keep_stated protocol variables limits roots tree from k sound declared expands generalises i l at;
      realised = shapes_realised protocol variables limits roots tree from k sound declared expands i l at;
    };
    apart = none_embeds_in_another protocol variables limits roots tree from;
    nothing_missed = shapes_complete;
    nothing_left_out = left_complete;
    limit_reached = record { steps = (exact_steps protocol variables limits roots tree from).0; strands = (exact_strands protocol variables limits roots tree from).0 };
  }
