-- What has become of labels, as the program keeps it.
use Rattle.std.specs.Prelude.{◌≡◌, ◌≤◌, ℕ, ◌+◌, List, [], ◌∷◌, ◌++◌, length, map, take, Option, Some, None}
use Rattle.cp_lists.specs.Lists.{item_at, IsIn}
use Rattle.cp_model.specs.Strand.{Protocol}
use Rattle.cp_model.specs.declared.variable.Declaration.{Declaration}
use Rattle.cp_model.specs.Skeleton.{Skeleton, IsSkeleton}
use Rattle.cp_model.specs.Problem.{numbers_from}
use Rattle.cp_model.specs.PointOfView.{IsPointOfView}
use Rattle.cp_model.specs.Tree.{Label, expanded_count}
use Rattle.cp_model.specs.declared.tree.Mark.{Mark}
use Rattle.cp_model.specs.declared.tree.Limits.{Limits}
use Rattle.cp_skel.specs.Tables.{DiffersInTable}
use Rattle.cp_cohort.specs.declared.child.Child.{Child}
use Rattle.cp_expansion.specs.Expansion.{IsExpansionOf}
use Rattle.cp_tree.specs.Made as plain
use Rattle.cp_tree.specs.Made.{made_of_root, link_of, LabelLink}
use Rattle.cp_tree.specs.declared.rules.Rule.TheVariants.{Tested as tested}
use Rattle.cp_tree.specs.Rules.{Facts, rule_of}
use Rattle.cp_tree.specs.Sound.{IsSoundMade}
use Rattle.cp_tree.specs.Searched.{leaf, mark_by_children, AreResolved, children_of}
use Rattle.cp_roots.specs.declared.root.Root.{Root}
use Rattle.cp_search.specs.declared.made.Made.{Made}
use Rattle.cp_search.specs.declared.resolved.Resolved.{Resolved}
use Rattle.cp_search.specs.declared.resolved.Resolved.TheVariants as settled
use Rattle.cp_search.specs.declared.expanded.Expanded.{Expanded}
use Rattle.cp_search.specs.declared.label_search.Search.{Search}
use Rattle.cp_search.specs.declared.waiting.Waiting.{Waiting}
use Rattle.cp_search.specs.MadeLabels.{made_view, made_link, untabled, made_untabled, AreFound, AddMade}
use Rattle.cp_search.specs.WaitingRecords.{IsRecordOf, AreKept}

-- The label that was made so and is a leaf, with this mark; that of one that may be a shape is still open.
abbrev pub leaf_label : Made → Option Mark → Label
leaf_label m mark = leaf (made_view m) m.unrealised mark

-- The label that was made so and generalises to the label of this number.
abbrev pub generalised_label : Made → ℕ → Label
generalised_label m child = record (leaf_label m None) { children = child ∷ [] }

-- The label that was made so and was expanded so: its skeleton has the table of the expansion.
abbrev pub expanded_label : Made → Expanded → Label
expanded_label m e = record (leaf_label m (mark_by_children e.children)) { skeleton = record m.skeleton { variables = e.skeleton.variables }; test = Some e.test; escape = e.patterns; children = e.children }

-- The label that was made so and of which this has become.
abbrev pub resolved_label : Made → Resolved → Label
resolved_label m (settled.Leaf mark) = leaf_label m mark
resolved_label m (settled.Generalised child) = generalised_label m child
resolved_label m (settled.Expanded e) = expanded_label m e

abbrev pub label_untabled : Label → LabelLink
label_untabled l = untabled (link_of l)

abbrev pub resolved_labels : List Made → List Resolved → List Label
resolved_labels (m ∷ ms) (s ∷ ss) = resolved_label m s ∷ resolved_labels ms ss
resolved_labels _ _ = []

-- What the rule asks of the label.
abbrev pub facts_of : Made → Facts
facts_of m = record { dead = m.dead; copy = m.seen_in; unrealised = m.unrealised; strands = length m.skeleton.strands }

-- The mark of a candidate is still open.
abbrev pub IsOpenMark : ℕ → Option Mark → Type 0
IsOpenMark i mark = mark ≡ None

-- The next label is to be expanded, and this is its record, which was taken out.
pub record IsNextToExpand (limits : Limits) (s : Search) (w : Waiting) : Type 0 where
  pub label : Made
  pub at : item_at s.queue.made (length s.settled.items) ≡ Some label
  pub expands : rule_of limits s.expanded (facts_of label) ≡ tested
  pub own : IsRecordOf (length s.settled.items) label w
  pub others : AreKept (length s.settled.items + 1) s.queue

-- This is true for one problem, which is a skeleton over the protocol.
pub record ForOneProblem (protocol : Protocol) (Says : Skeleton → Type 0) : Type 0 where
  pub problem : Skeleton
  pub variables : List Declaration
  pub skeleton : IsSkeleton protocol problem
  pub own : IsPointOfView variables problem
  pub each : Says problem

-- Each label is sound for one problem.
abbrev pub AreSoundMade : Protocol → List Made → Type 0
AreSoundMade protocol ms = ForOneProblem protocol (λ problem. (i : ℕ) (m : Made) → item_at ms i ≡ Some m → IsSoundMade protocol problem (made_view m))

-- Each root is sound, as a label, for one problem.
abbrev pub AreSoundRoots : Protocol → List Root → Type 0
AreSoundRoots protocol roots = ForOneProblem protocol (λ problem. (r : Root) → IsIn r roots → IsSoundMade protocol problem (made_of_root r))

-- Label i is expanded: its expansion, and behind the other labels those of the children of its test, with their numbers.
pub record ExpandsLabel (protocol : Protocol) (i : ℕ) (old new : List Made) (e : Expanded) : Type 0 where
  pub label : Made
  pub at : item_at old i ≡ Some label
  pub children : List Child
  pub expansion : IsExpansionOf protocol label.skeleton (record { test = e.test; skeleton = e.skeleton; patterns = e.patterns; children = children })
  pub table : DiffersInTable label.skeleton e.skeleton
  pub made : AddMade (map (plain.made_of_child i) children) old new
  pub sound : AreSoundMade protocol new
  pub numbers : e.children ≡ numbers_from (length old) children

-- An expanded label keeps its skeleton, but for the table.
abbrev pub AreExpandedOf : List Made → List Resolved → Type 0
AreExpandedOf ms ss = (i : ℕ) (m : Made) (e : Expanded) → item_at ms i ≡ Some m → item_at ss i ≡ Some (settled.Expanded e) → DiffersInTable m.skeleton e.skeleton

-- The first labels are resolved, as the rules say, when so many were expanded; all others were made from them or are roots. What
-- is found of each label as it was made is true, and what has become of it changes nothing of its links but the tables.
pub record IsSearched (protocol : Protocol) (limits : Limits) (roots : List plain.Made) (made : List Made) (settled : List Resolved) (expanded : ℕ) : Type 0 where
  pub children : List plain.Made
  pub all_made : map made_view made ≡ roots ++ children
  pub found : AreFound made
  pub sound : AreSoundMade protocol made
  pub tables : AreExpandedOf made settled
  pub within : length settled ≤ length made
  pub links : map label_untabled (resolved_labels made settled) ≡ take (length settled) (map made_untabled made)
  pub become : AreResolved protocol limits (map made_link made) IsOpenMark 0 0 (take (length settled) (map made_view made)) (resolved_labels made settled) children
  pub numbers : children_of (resolved_labels made settled) ≡ numbers_from (length roots) children
  pub counted : expanded_count (resolved_labels made settled) ≡ expanded
  pub within_steps : expanded ≤ limits.steps

-- The same of a search.
abbrev pub HasSearched : Protocol → Limits → List plain.Made → Search → Type 0
HasSearched protocol limits roots s = IsSearched protocol limits roots s.queue.made s.settled.items s.expanded
