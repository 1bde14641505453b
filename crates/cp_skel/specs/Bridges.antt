-- Pairs that lead through a strand, and the pairs of a skeleton without it.
use Rattle.std.specs.Prelude.{◌≡◌, ◌==◌, ◌&&◌, nat_le, not, Bool, true, false, ℕ, List, [], ◌∷◌, ◌++◌}
use Rattle.cp_model.specs.declared.node.OrderPair.{OrderPair}
use Rattle.cp_skel.specs.Deletion.{node_renumbered, pair_renumbered, IsPairOn, LeavesOut}

-- The first pair leads to strand number d, and the second from there on to a strand other than where the first began.
abbrev pub is_through : ℕ → OrderPair → OrderPair → Bool
is_through d p q = (p.later.strand == d) && (q.earlier.strand == d) && nat_le p.later.index q.earlier.index && not (p.earlier.strand == q.later.strand)

-- From where the first pair begins to where the second ends.
abbrev pub bridge : ℕ → OrderPair → OrderPair → OrderPair
bridge d p q = record { earlier = node_renumbered d p.earlier; later = node_renumbered d q.later }

abbrev pub bridge_if : Bool → OrderPair → List OrderPair → List OrderPair
bridge_if true p rest = p ∷ rest
bridge_if false p rest = rest

-- The pairs that lead on from where p ends, each put behind p.
abbrev pub bridges_from : ℕ → OrderPair → List OrderPair → List OrderPair
bridges_from d p [] = []
bridges_from d p (q ∷ qs) = bridge_if (is_through d p q) (bridge d p q) (bridges_from d p qs)

-- The same of all pairs of a list.
abbrev pub bridges : ℕ → List OrderPair → List OrderPair → List OrderPair
bridges d qs [] = []
bridges d qs (p ∷ ps) = bridges_from d p qs ++ bridges d qs ps

-- The new pairs are those of the old that have no node on strand number d, and one for each two that lead through it.
pub record IsWithoutStrand (d : ℕ) (old new : List OrderPair) : Type 0 where
  pub left : List OrderPair
  pub leaves_out : LeavesOut (IsPairOn d) (pair_renumbered d) old left
  pub all : new ≡ left ++ bridges d old old
