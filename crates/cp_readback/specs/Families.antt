-- Parents and children as the label forms of a tree state them.
use Rattle.std.specs.Prelude.{◌≡◌, ◌==◌, ◌&&◌, ◌||◌, nat_eq, ℕ, suc, List, [], ◌∷◌, map, Bool, false, Option, Some, None}
use Rattle.std.specs.HashSet.{HashSet, contains}
use Rattle.cp_lists.specs.Lists.{item_at}
use Rattle.cp_sexpr.specs.Syntax.{Form}
use Rattle.cp_sexpr.specs.View.{view}
use Rattle.cp_report.specs.Labels.{is_among, stated_parent, stated_children, has_child}
use Rattle.cp_readback.specs.declared.parents.Family.{Family}

-- The set has these numbers, and no others.
abbrev pub AreNumbers : List ℕ → {S : Type 0} → HashSet ℕ S → Type 0
AreNumbers ns set = (n : ℕ) → contains nat_eq set n ≡ is_among n ns

abbrev pub is_same_child : ℕ × ℕ → ℕ × ℕ → Bool
is_same_child a b = (a.0 == b.0) && (a.1 == b.1)

-- Label n with these children has a child, where the label and the child are these two.
abbrev pub names_child : ℕ → List ℕ → ℕ × ℕ → Bool
names_child n ns q = (n == q.0) && is_among q.1 ns

-- One of these label forms, the first of which has number n, has a child, where the label and the child are these two.
abbrev pub child_from : ℕ → List Form → ℕ × ℕ → Bool
child_from n [] q = false
child_from n (f ∷ fs) q = names_child n (stated_children f) q || child_from (suc n) fs q

-- The set has each label with each of its children.
abbrev pub AreChildren : List Form → {S : Type 0} → HashSet (ℕ × ℕ) S → Type 0
AreChildren labels set = (n i : ℕ) → contains is_same_child set (n, i) ≡ has_child i (item_at labels n)

abbrev pub labels_of : Family → List Form
labels_of f = map view f.labels.now

-- The parent that a label form states, if it is there.
abbrev pub parent_in : Option Form → Option ℕ
parent_in None = None
parent_in (Some f) = stated_parent f

-- The family keeps what its label forms state.
pub record IsFamily (f : Family) : Type 0 where
  pub parents : f.parents.items ≡ map stated_parent (labels_of f)
  pub children : AreChildren (labels_of f) f.children
