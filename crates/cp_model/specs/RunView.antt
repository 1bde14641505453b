-- The traces, nodes and links that runs and bundles of the program have, and the runs and bundles that they stand for.
use Rattle.std.specs.Prelude.{◌≡◌, List, [], Option, Some, None, map, Vec}
use Rattle.std.specs.Option.{option_and_then}
use Rattle.cp_lists.specs.Lists.{item_at}
use Rattle.cp_model.specs.Message.{Message}
use Rattle.cp_model.specs.Strand as strand
use Rattle.cp_model.specs.Bundle as bundle
use Rattle.cp_model.specs.Run as run
use Rattle.cp_model.specs.declared.node.Node.{Node}
use Rattle.cp_model.specs.declared.strand.Strand.{Strand}
use Rattle.cp_model.specs.declared.bundle.Run.{Run}
use Rattle.cp_model.specs.declared.bundle.Bundle.{Bundle}

-- The trace of a strand.
abbrev pub trace_view : Strand → List (strand.Event Message)
trace_view s = s.events.items

-- The senders of a strand's events, one for each.
abbrev pub row_view : {A : Type 0} → Vec (Option Node) A → List (Option Node)
row_view row = row.items

-- The events of a trace, if there is one.
abbrev pub items_or_none : {A : Type 0} → Option (List A) → List A
items_or_none None = []
items_or_none (Some xs) = xs

-- The event at a node, where these are the traces.
abbrev pub event_in : List (List (strand.Event Message)) → Node → Option (strand.Event Message)
event_in traces n = item_at (items_or_none (item_at traces n.strand)) n.index

-- The sender that rows have for a node.
abbrev pub link_in : List (List (Option Node)) → Node → Option Node
link_in rows n = option_and_then (λ o. o) (item_at (items_or_none (item_at rows n.strand)) n.index)

-- The sender is that of a reception.
abbrev pub if_reception : Option (strand.Event Message) → Option Node → Option Node
if_reception (Some (strand.recv m)) sender = sender
if_reception (Some (strand.send m)) sender = None
if_reception None sender = None

-- The sender of the reception at a node of a bundle; none where no reception is there.
abbrev pub sender_in : Bundle → Node → Option Node
sender_in b n = if_reception (event_in (map trace_view b.strands.items) n) (link_in (map row_view b.senders.items) n)

-- The strands of the program have the traces of these plain strands, place by place.
abbrev pub AreTraces : List Strand → List strand.Strand → Type 0
AreTraces strands plain = map strand.trace_of plain ≡ map trace_view strands

-- The program's run stands for this one: its strands have the same traces, and its events are the same.
pub record StandsForRun (r : Run) (plain : run.Run) : Type 0 where
  pub strands : AreTraces r.strands.items plain.strands
  pub events : plain.events ≡ r.events.items

-- The program's bundle stands for this one: its strands have the same traces, its receptions the same senders, and its
-- numbering is the same.
pub record StandsForBundle (b : Bundle) (plain : bundle.Bundle) : Type 0 where
  pub strands : AreTraces b.strands.items plain.strands
  pub senders : (n : Node) (m : Message) → bundle.event_at plain.strands n ≡ Some (strand.recv m) → sender_in b n ≡ Some (plain.sender n)
  pub order : plain.order ≡ b.order.items

-- The strands of a bundle, and its nodes in the order of its numbering, as a run.
abbrev pub run_along : bundle.Bundle → run.Run
run_along b = record { strands = b.strands; events = b.order }
