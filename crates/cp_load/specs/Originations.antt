-- Where unique values originate on the strands of problems.
use Rattle.std.specs.Prelude.{◌||◌, ℕ, List, [], ◌∷◌, Bool, false, Option, Some, None}
use Rattle.cp_model.specs.Term.{AtomTerm, Term, atom_term}
use Rattle.cp_model.specs.declared.strand.Event.{Event}
use Rattle.cp_model.specs.declared.strand.Event.TheVariants.{Send as send, Receive as recv}
use Rattle.cp_model.specs.Bundle.{node_at}
use Rattle.cp_model.specs.Skeleton.{SkeletonStrand, instance, listener, skeleton_trace, UniqueAt}
use Rattle.cp_model.specs.Same.{origin_in}
use Rattle.cp_language.specs.Roles.{is_somewhere}

-- The place of a strand at which a value originates; on a listener none does.
abbrev pub origin_on : SkeletonStrand → Term → Option ℕ
origin_on (listener t) v = None
origin_on (instance role height terms) v = origin_in (skeleton_trace (instance role height terms)) v

-- The place of an event, if it is a transmission.
abbrev pub place_if_sent : Event Term → ℕ → Option ℕ
place_if_sent (send m) n = Some n
place_if_sent (recv m) n = None

-- The value originates on one of the strands.
abbrev pub originates : List SkeletonStrand → AtomTerm → Bool
originates [] v = false
originates (k ∷ ks) v = is_somewhere (origin_on k (atom_term v)) || originates ks v

-- The value with its origin, a place of strand number s, if there is one.
abbrev pub unique_at : AtomTerm → ℕ → Option ℕ → List UniqueAt
unique_at v s None = []
unique_at v s (Some i) = record { value = v; origin = node_at s i } ∷ []
