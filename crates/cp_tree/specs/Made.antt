-- Labels as they are made, and to which labels they may point.
use Rattle.std.specs.Prelude.{◌≡◌, ◌<◌, ◌⊎◌, ℕ, List, map, take, Bool, false, Option, Some, None}
use Rattle.cp_lists.specs.Lists.{item_at, Steps}
use Rattle.cp_model.specs.Skeleton.{Skeleton}
use Rattle.cp_model.specs.Tree.{Label}
use Rattle.cp_model.specs.declared.tree.Operation.{Operation}
use Rattle.cp_model.specs.declared.tree.Operation.TheVariants.{Generalised as by_generalising}
use Rattle.cp_model.specs.declared.tree.Mark.{Mark}
use Rattle.cp_model.specs.declared.tree.Mark.TheVariants.{Seen as seen}
use Rattle.cp_shapes.specs.Shapes.{EmbedsAt}
use Rattle.cp_roots.specs.declared.root.Root.{Root}
use Rattle.cp_roots.specs.Roots.{in_report_order}
use Rattle.cp_cohort.specs.declared.child.Child.{Child}

-- A label as it is made: from which label, by which operation, its skeleton, and whether it is dead from the start: the problem
-- itself, where it has no normal form.
pub record Made : Type 0 where
  pub parent : Option ℕ
  pub operation : Operation
  pub skeleton : Skeleton
  pub dead : Bool

-- A root of a problem.
abbrev pub made_of_root : Root → Made
made_of_root r = record { parent = None; operation = r.operation; skeleton = r.skeleton; dead = r.dead }

-- A child of the test of label i; its assumptions stand in the order of a report.
abbrev pub made_of_child : ℕ → Child → Made
made_of_child i c = record { parent = Some i; operation = c.operation; skeleton = in_report_order c.skeleton; dead = false }

-- What label i generalises to.
abbrev pub made_of_generalisation : ℕ → Skeleton → Made
made_of_generalisation i g = record { parent = Some i; operation = by_generalising; skeleton = g; dead = false }

-- What a label is for others that may point to it: from which it was made, in which it is seen, and its skeleton.
pub record LabelLink : Type 0 where
  pub parent : Option ℕ
  pub seen_in : Option ℕ
  pub skeleton : Skeleton

abbrev pub seen_in_of : Option Mark → Option ℕ
seen_in_of (Some (seen n)) = Some n
seen_in_of _ = None

abbrev pub link_of : Label → LabelLink
link_of l = record { parent = l.parent; seen_in = seen_in_of l.mark; skeleton = l.skeleton }

-- An edge: label j was made from label i, or label i is seen in label j.
pub data IsEdge (links : List LabelLink) (i j : ℕ) : Type 0 where
  to_child : {w : LabelLink} → item_at links j ≡ Some w → w.parent ≡ Some i → IsEdge links i j
  to_seen : {w : LabelLink} → item_at links i ≡ Some w → w.seen_in ≡ Some j → IsEdge links i j

-- Label j is label i, or can be reached from it along edges.
abbrev pub Reaches : List LabelLink → ℕ → ℕ → Type 0
Reaches links i j = (i ≡ j) ⊎ Steps (IsEdge links) i j

-- Label m may point to label n: n comes before m, the two are isomorphic, and the label from which m was made, if there is one,
-- neither is n nor can be reached from n along edges between labels before m.
pub record MayPointTo (links : List LabelLink) (m n : ℕ) : Type 0 where
  pub earlier : n < m
  pub embeds : EmbedsAt (map (λ w. w.skeleton) links) n m
  pub embeds_back : EmbedsAt (map (λ w. w.skeleton) links) m n
  pub no_return : (w : LabelLink) (p : ℕ) → item_at links m ≡ Some w → w.parent ≡ Some p → Reaches (take m links) n p → ⊥
