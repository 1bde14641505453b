-- Candidates for shapes among labels that are resolved, and their marks.
use Rattle.std.specs.Prelude.{ℕ, suc, List, [], ◌∷◌, slice_index_or, Bool, true, false, Option, Some, None}
use Rattle.cp_model.specs.declared.tree.Mark.{Mark}
use Rattle.cp_model.specs.declared.tree.Mark.TheVariants.{Shape as shape, InstanceOf as instance_of}
use Rattle.cp_tree.specs.Candidates.{Candidate}
use Rattle.cp_search.specs.declared.made.Made.{Made}
use Rattle.cp_search.specs.declared.resolved.Resolved.{Resolved}
use Rattle.cp_search.specs.declared.resolved.Resolved.TheVariants as settled

-- The mark is open.
abbrev pub is_open : Resolved → Bool
is_open (settled.Leaf None) = true
is_open _ = false

-- A label whose mark is open is a candidate.
abbrev pub if_open : Resolved → ℕ → Made → List Candidate → List Candidate
if_open (settled.Leaf None) n m cs = record { number = n; skeleton = m.skeleton } ∷ cs
if_open _ n m cs = cs

-- The candidates among labels that are numbered from n on.
abbrev pub open_from : ℕ → List Made → List Resolved → List Candidate
open_from n (m ∷ ms) (s ∷ ss) = if_open s n m (open_from (suc n) ms ss)
open_from n _ _ = []

-- The mark of a candidate: a shape, or an instance of the shape with this place among the candidates, which have these numbers.
abbrev pub candidate_mark : List ℕ → Option ℕ → Mark
candidate_mark numbers None = shape
candidate_mark numbers (Some place) = instance_of (slice_index_or numbers place 0)
