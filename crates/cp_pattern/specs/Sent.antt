-- What role strands send before a node, and patterns.
use Rattle.std.specs.Prelude.{◌≡◌, List, Some, true}
use Rattle.cp_model.specs.Term.{Term}
use Rattle.cp_model.specs.Identity.{unchanged}
use Rattle.cp_model.specs.declared.strand.Event.TheVariants.{Send as send}
use Rattle.cp_model.specs.declared.node.Node.{Node}
use Rattle.cp_model.specs.Skeleton.{term_event_at, Skeleton, Before}
use Rattle.cp_model.specs.Derivable.{IsOnInstance}
use Rattle.cp_model.specs.Tree.{Pattern}
use Rattle.cp_skel.specs.Events.{LocatedEvent}
use Rattle.cp_theory.specs.Inside.{CarriesInsideAlone}

-- If a role strand sends the event before node n, it carries c inside the patterns alone.
abbrev pub IsGuardedAt : List Pattern → Skeleton → Node → Term → LocatedEvent → Type 0
IsGuardedAt ps k n c o = (t : Term) → o.by_role ≡ true → o.event ≡ send t → Before k o.node n → CarriesInsideAlone ps unchanged c t

-- Each transmission of a role strand before node n carries c inside the patterns alone.
abbrev pub SendInsideAlone : List Pattern → Skeleton → Node → Term → Type 0
SendInsideAlone ps k n c = (m : Node) (t : Term) → IsOnInstance k m → term_event_at k.strands m ≡ Some (send t) → Before k m n → CarriesInsideAlone ps unchanged c t
