-- Which strands of the problem go to one role strand.
use Rattle.std.specs.Prelude.{ℕ, suc, Bool, true, false, List, [], ◌∷◌, Option, Some, None}
use Rattle.cp_lists.specs.Lists.{item_at}
use Rattle.cp_model.specs.Skeleton.{SkeletonStrand, instance, listener, Skeleton}
use Rattle.cp_fingerprint.specs.FirstPlaces.{first_place_of}

-- For strand number s of the problem, which goes to this place and strand: where that is an instance, the first strand of the
-- problem that goes to the same place; where it is a listener, s; none past the end.
abbrev pub entry_by : List ℕ → ℕ → ℕ → Option SkeletonStrand → Option ℕ
entry_by places s place None = None
entry_by places s place (Some (instance role height terms)) = Some (first_place_of place places)
entry_by places s place (Some (listener t)) = Some s

abbrev pub entry_of : Skeleton → ℕ → ℕ → Option ℕ
entry_of k s place = entry_by k.from_problem.strands s place (item_at k.strands place)

abbrev pub partition_entries_from : Skeleton → ℕ → List ℕ → List (Option ℕ)
partition_entries_from k s [] = []
partition_entries_from k s (place ∷ places) = entry_of k s place ∷ partition_entries_from k (suc s) places

-- The partition of the problem's strands by the role strand to which they go.
abbrev pub partition_of : Skeleton → List (Option ℕ)
partition_of k = partition_entries_from k 0 k.from_problem.strands

-- Whether no entry is none: each strand of the problem goes to a strand that is there.
abbrev pub is_whole : List (Option ℕ) → Bool
is_whole [] = true
is_whole (None ∷ entries) = false
is_whole (Some entry ∷ entries) = is_whole entries
