-- The numbers of strands where one is gone.
use Rattle.std.proofs.Common.{◌≡◌, ◌≢◌, ℕ, zero, suc, ◌-◌, ◌<◌, ◌≤◌, List, [], ◌∷◌, refl, sym, ap, ◌∙◌, arith}
use Rattle.std.specs.List.{remove}
use Rattle.cp_lists.specs.Lists.{item_at}
use Rattle.cp_model.specs.Bundle.{node_at}
use Rattle.cp_model.specs.declared.node.Node.{Node}
use Rattle.cp_model.specs.Skeleton.{SkeletonStrand, skeleton_trace_or_none, term_event_at}
use Rattle.cp_skel.specs.Deletion.{renumbered, node_renumbered}

pub renumbered_above : (d s : ℕ) → d < s → suc (renumbered d s) ≡ s
renumbered_above d zero l = absurd (omega arith)
renumbered_above zero (suc s) l = refl
renumbered_above (suc d) (suc s) l = ap suc (renumbered_above d s (omega arith))

pub renumbered_below : (d s : ℕ) → s ≤ d → renumbered d s ≡ s
renumbered_below d zero l = refl
renumbered_below zero (suc s) l = absurd (omega arith)
renumbered_below (suc d) (suc s) l = ap suc (renumbered_below d s (omega arith))

pub one_less : (d s : ℕ) → d < s → s - 1 ≡ renumbered d s
one_less d s l = let e : suc (renumbered d s) ≡ s = renumbered_above d s l in omega arith

-- The number that a strand had before strand number d was gone.
abbrev pub restored : ℕ → ℕ → ℕ
restored zero s = suc s
restored (suc d) zero = zero
restored (suc d) (suc s) = suc (restored d s)

pub restored_renumbered : (d s : ℕ) → s ≢ d → restored d (renumbered d s) ≡ s
restored_renumbered zero zero h = absurd (h refl)
restored_renumbered (suc d) zero h = refl
restored_renumbered zero (suc s) h = refl
restored_renumbered (suc d) (suc s) h = ap suc (restored_renumbered d s (λ e. h (ap suc e)))

pub renumbered_apart : (d s t : ℕ) → s ≢ d → t ≢ d → s ≢ t → renumbered d s ≢ renumbered d t
renumbered_apart d s t hs ht h e = h (sym (restored_renumbered d s hs) ∙ ap (restored d) e ∙ restored_renumbered d t ht)

-- What stands at a place of a list without an item.
pub item_without : {A : Type 0} (xs : List A) (d s : ℕ) → item_at (remove xs d) s ≡ item_at xs (restored d s)
item_without [] zero s = refl
item_without [] (suc d) zero = refl
item_without [] (suc d) (suc s) = refl
item_without (x ∷ xs) zero s = refl
item_without (x ∷ xs) (suc d) zero = refl
item_without (x ∷ xs) (suc d) (suc s) = item_without xs d s

abbrev pub node_restored : ℕ → Node → Node
node_restored d n = node_at (restored d n.strand) n.index

pub node_again : (d : ℕ) (n : Node) → n.strand ≢ d → node_restored d (node_renumbered d n) ≡ n
node_again d n h i = node_at (restored_renumbered d n.strand h i) n.index

pub event_without : (strands : List SkeletonStrand) (d : ℕ) (n : Node) → term_event_at (remove strands d) n ≡ term_event_at strands (node_restored d n)
event_without strands d n = ap (λ x. item_at (skeleton_trace_or_none x) n.index) (item_without strands d n.strand)

pub event_kept : (strands : List SkeletonStrand) (d : ℕ) (n : Node) → n.strand ≢ d → term_event_at (remove strands d) (node_renumbered d n) ≡ term_event_at strands n
event_kept strands d n h = event_without strands d (node_renumbered d n) ∙ ap (term_event_at strands) (node_again d n h)

pub renumbered_restored : (d s : ℕ) → renumbered d (restored d s) ≡ s
renumbered_restored zero s = refl
renumbered_restored (suc d) zero = refl
renumbered_restored (suc d) (suc s) = ap suc (renumbered_restored d s)

pub restored_other : (d s : ℕ) → restored d s ≢ d
restored_other zero s e = absurd (omega (arith, e))
restored_other (suc d) zero e = absurd (omega (arith, e))
restored_other (suc d) (suc s) e = restored_other d s (omega (arith, e))
