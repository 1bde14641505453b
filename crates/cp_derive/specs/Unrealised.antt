-- The receptions of a skeleton whose messages cannot be derived.
use Rattle.std.specs.Prelude.{◌≡◌, ◌⊎◌, ◌↔◌, ◌<◌, List, [], ◌∷◌, Some}
use Rattle.cp_lists.specs.Lists.{IsIn}
use Rattle.cp_model.specs.Term.{Term}
use Rattle.cp_model.specs.declared.strand.Event.TheVariants.{Receive as recv}
use Rattle.cp_model.specs.declared.node.Node.{Node}
use Rattle.cp_model.specs.Skeleton.{term_event_at, Skeleton}
use Rattle.cp_model.specs.Derivable.{DerivableAt}

-- The node is a reception, on a role strand or of a listener, whose message cannot be derived there.
pub record IsUnrealisedAt (k : Skeleton) (n : Node) : Type 0 where
  pub message : Term
  pub reception : term_event_at k.strands n ≡ Some (recv message)
  pub underivable : DerivableAt k n message → ⊥

-- Node n is on a strand of a lower number than m, or earlier on the same.
abbrev pub IsListedBefore : Node → Node → Type 0
IsListedBefore n m = (n.strand < m.strand) ⊎ ((n.strand ≡ m.strand) × (n.index < m.index))

-- The nodes stand in order, by strand and then by index, each once.
abbrev pub AreRising : List Node → Type 0
AreRising [] = Unit {0}
AreRising (n ∷ ns) = ((m : Node) → IsIn m ns → IsListedBefore n m) × AreRising ns

-- If the node is a reception, its message can be derived there.
abbrev pub IsRealisedAt : Skeleton → Node → Type 0
IsRealisedAt k n = (t : Term) → term_event_at k.strands n ≡ Some (recv t) → DerivableAt k n t

-- The list holds exactly the receptions whose messages cannot be derived, by strand and then by index; the
-- messages of all others can.
pub record ListsUnrealised (k : Skeleton) (nodes : List Node) : Type 0 where
  pub each : (n : Node) → IsIn n nodes ↔ IsUnrealisedAt k n
  pub others : (n : Node) (t : Term) → term_event_at k.strands n ≡ Some (recv t) → IsIn n nodes ⊎ DerivableAt k n t
  pub rising : AreRising nodes
