-- A limit that was reached is the outcome of the tree.
use Rattle.std.proofs.Common.{◌≡◌, ◌≢◌, ◌↔◌, ℕ, ◌<◌, ◌≤◌, List, length, map, Option, Some, None, refl, arith}
use Rattle.cp_lists.proofs.Items.{place_of}
use Rattle.cp_model.specs.Strand.{Protocol}
use Rattle.cp_model.specs.declared.variable.Declaration.{Declaration}
use Rattle.cp_model.specs.Derivable.{IsUnrealised}
use Rattle.cp_model.specs.Tree.{Label, Tree, ReachedSteps, ReachedStrands}
use Rattle.cp_model.specs.declared.tree.Mark.{Mark}
use Rattle.cp_model.specs.declared.tree.Mark.TheVariants.{Dead as dead, Seen as seen, LimitSteps as limit_steps, LimitStrands as limit_strands}
use Rattle.cp_model.specs.declared.tree.Outcome.{Outcome}
use Rattle.cp_model.specs.declared.tree.Outcome.TheVariants.{LimitSteps as at_step_limit, LimitStrands as at_strand_limit}
use Rattle.cp_model.specs.declared.tree.Limits.{Limits}
use Rattle.cp_roots.specs.declared.root.Root.{Root}
use Rattle.cp_tree.specs.Made.{Made, LabelLink, link_of}
use Rattle.cp_tree.specs.Searched.{IsMarkedAmong, IsMarked, HasOutcome, some_at_step_limit, some_at_strand_limit, none_at_limit, IsTreeFrom}
use Rattle.cp_tree.proofs.Cases.{Becomes, is_dead, is_seen, is_realised, is_generalised, above_bound, at_limit, is_tested}
use Rattle.cp_tree.proofs.MarksSay.{not_both}
use Rattle.cp_tree.proofs.SoundLabels.{settled_here, becomes_here}
use Rattle.cp_tree.proofs.ReachedLimits.{reached_steps, reached_strands}

-- ---- the mark of a label that is open

module _ (protocol : Protocol) (limits : Limits) (links : List LabelLink) (marks : ℕ → Option Mark → Type 0) (i before : ℕ) (m : Made) where
  -- One within the bound that was not expanded is at the step limit.
  steps_by : (l : Label) (gives : List Made) → Becomes protocol limits links marks i before m l gives → IsUnrealised l.skeleton → ((n : ℕ) → l.mark ≢ Some (seen n)) → l.mark ≢ Some dead
      → l.test ≡ None → length l.skeleton.strands ≤ limits.strands → l.mark ≡ Some limit_steps
  steps_by l gives (is_dead d) u not_seen not_dead t w = absurd (not_dead refl)
  steps_by l gives (is_seen {n = n} d r s) u not_seen not_dead t w = absurd (not_seen n refl)
  steps_by l gives (is_realised d n a y s) u not_seen not_dead t w = absurd (not_both m.skeleton u a)
  steps_by l gives (is_generalised d n a g) u not_seen not_dead t w = absurd (not_both m.skeleton u a)
  steps_by l gives (above_bound d n r q b) u not_seen not_dead t w = absurd (omega (arith, b, w))
  steps_by l gives (at_limit d n r q b e) u not_seen not_dead t w = refl
  steps_by l gives (is_tested d n r q b c x s) u not_seen not_dead t w = absurd (cc)

  -- One with more strands than the bound is at that bound.
  strands_by : (l : Label) (gives : List Made) → Becomes protocol limits links marks i before m l gives → IsUnrealised l.skeleton → ((n : ℕ) → l.mark ≢ Some (seen n)) → l.mark ≢ Some dead
      → limits.strands < length l.skeleton.strands → l.mark ≡ Some limit_strands
  strands_by l gives (is_dead d) u not_seen not_dead w = absurd (not_dead refl)
  strands_by l gives (is_seen {n = n} d r s) u not_seen not_dead w = absurd (not_seen n refl)
  strands_by l gives (is_realised d n a y s) u not_seen not_dead w = absurd (not_both m.skeleton u a)
  strands_by l gives (is_generalised d n a g) u not_seen not_dead w = absurd (not_both m.skeleton u a)
  strands_by l gives (above_bound d n r q b) u not_seen not_dead w = refl
  strands_by l gives (at_limit d n r q b e) u not_seen not_dead w = absurd (omega (arith, b, w))
  strands_by l gives (is_tested d n r q b c x s) u not_seen not_dead w = absurd (omega (arith, b, w))

-- ---- the outcome by the marks

steps_marked : (labels : List Label) (outcome : Outcome) → HasOutcome labels outcome → (outcome ≡ at_step_limit) ↔ IsMarked labels limit_steps
steps_marked labels outcome (some_at_step_limit m) = (λ e. m, λ n. refl)
steps_marked labels outcome (some_at_strand_limit none m) = (λ e. absurd (cc), λ n. absurd (none n))
steps_marked labels outcome (none_at_limit none no_strands) = (λ e. absurd (cc), λ n. absurd (none n))

strands_marked : (labels : List Label) (outcome : Outcome) → HasOutcome labels outcome → (outcome ≡ at_strand_limit) ↔ ((IsMarked labels limit_steps → ⊥) × IsMarked labels limit_strands)
strands_marked labels outcome (some_at_step_limit m) = (λ e. absurd (cc), λ n. absurd (n.0 m))
strands_marked labels outcome (some_at_strand_limit none m) = (λ e. (none, m), λ n. refl)
strands_marked labels outcome (none_at_limit none no_strands) = (λ e. absurd (cc), λ n. absurd (no_strands n.1))

-- ---- the limits of a tree

module _ (protocol : Protocol) (variables : List Declaration) (limits : Limits) (roots : List Root) (tree : Tree) (from : IsTreeFrom protocol variables limits roots tree) where
  abbrev links : List LabelLink
  links = map link_of tree.labels

  marked_steps : ReachedSteps limits tree → IsMarked tree.labels limit_steps
  marked_steps r =
      let p = place_of r.left.listed in
      let s = settled_here protocol variables limits roots tree from p.0 r.label p.1 in
      let mark = steps_by protocol limits links (IsMarkedAmong from.candidates) p.0 s.expanded_before s.so r.label s.gives (becomes_here protocol variables limits roots tree from p.0 r.label s) r.left.unrealised r.left.not_seen r.left.not_dead r.unexpanded r.within in
      (r.label, r.left.listed, mark)

  marked_strands : ReachedStrands limits tree → (IsMarked tree.labels limit_steps → ⊥) × IsMarked tree.labels limit_strands
  marked_strands r =
      let p = place_of r.left.listed in
      let s = settled_here protocol variables limits roots tree from p.0 r.label p.1 in
      let mark = strands_by protocol limits links (IsMarkedAmong from.candidates) p.0 s.expanded_before s.so r.label s.gives (becomes_here protocol variables limits roots tree from p.0 r.label s) r.left.unrealised r.left.not_seen r.left.not_dead r.above in
      (λ m. r.no_step_limit m.0 m.1 m.2, (r.label, r.left.listed, mark))

  pub exact_steps : (tree.outcome ≡ at_step_limit) ↔ ReachedSteps limits tree
  exact_steps =
      let marked = steps_marked tree.labels tree.outcome from.outcome in
      (λ e. reached_steps protocol variables limits roots tree from (marked.0 e), λ r. marked.1 (marked_steps r))

  pub exact_strands : (tree.outcome ≡ at_strand_limit) ↔ ReachedStrands limits tree
  exact_strands =
      let marked = strands_marked tree.labels tree.outcome from.outcome in
      (λ e. let n = marked.0 e in reached_strands protocol variables limits roots tree from n.0 n.1, λ r. marked.1 (marked_strands r))
