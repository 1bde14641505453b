-- The first events that carry a message.
use Rattle.std.specs.Prelude.{◌≡◌, ℕ, ◌<◌, ◌≤◌, List, Option, Some, None}
use Rattle.cp_lists.specs.Lists.{item_at}
use Rattle.cp_model.specs.Message.{Message, IsCarriedBy}
use Rattle.cp_model.specs.Strand.{Event, payload}
use Rattle.cp_model.specs.declared.node.Node.{Node}
use Rattle.cp_model.specs.RunView.{items_or_none, event_in}

-- No event of the trace before this place carries the message.
abbrev pub NoneCarriesBefore : Message → List (Event Message) → ℕ → Type 0
NoneCarriesBefore m trace i = (j : ℕ) (e : Event Message) → j < i → item_at trace j ≡ Some e → IsCarriedBy m (payload e) → ⊥

-- The event at this place is the first of the trace that carries the message; or none does.
abbrev pub IsFirstCarrying : Message → List (Event Message) → Option ℕ → Type 0
IsFirstCarrying m trace (Some i) = (e : Event Message) × (item_at trace i ≡ Some e) × IsCarriedBy m (payload e) × NoneCarriesBefore m trace i
IsFirstCarrying m trace None = (j : ℕ) (e : Event Message) → item_at trace j ≡ Some e → IsCarriedBy m (payload e) → ⊥

-- The node's event carries the message.
pub record CarriesAt (traces : List (List (Event Message))) (m : Message) (n : Node) : Type 0 where
  pub event : Event Message
  pub there : event_in traces n ≡ Some event
  pub carried : IsCarriedBy m (payload event)

-- x is the first node of its strand whose event carries the message, and stands at n or before it on the same strand.
pub record IsFirstOnStrand (traces : List (List (Event Message))) (m : Message) (x n : Node) : Type 0 where
  pub same_strand : x.strand ≡ n.strand
  pub at_or_before : x.index ≤ n.index
  pub carries : CarriesAt traces m x
  pub first : NoneCarriesBefore m (items_or_none (item_at traces x.strand)) x.index
