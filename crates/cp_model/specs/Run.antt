-- Runs: the events of some strands, one after another, and the bundle that a run makes.
use Rattle.std.specs.Prelude.{◌≡◌, ℕ, suc, ◌<◌, ◌≤◌, List, Some}
use Rattle.cp_lists.specs.Lists.{item_at}
use Rattle.cp_model.specs.Message.{Message}
use Rattle.cp_model.specs.Strand.{send, recv, Strand}
use Rattle.cp_model.specs.Bundle.{node_at, event_at, IsListing, Bundle}
use Rattle.cp_model.specs.declared.node.Node.{Node}

pub record Run : Type 0 where
  pub strands : List Strand
  pub events : List Node

-- Every event of every strand stands once, in strand order, and each received message was sent by an earlier
-- event.
pub record IsRun (r : Run) : Type 0 where
  pub listing : IsListing r.strands r.events
  pub in_order : (s i j k : ℕ) → item_at r.events j ≡ Some (node_at s i) → item_at r.events k ≡ Some (node_at s (suc i)) → j < k
  pub sent_before : (n : Node) (m : Message) (k : ℕ) → event_at r.strands n ≡ Some (recv m) → item_at r.events k ≡ Some n →
      (j : ℕ) × (x : Node) × (j < k) × (item_at r.events j ≡ Some x) × (event_at r.strands x ≡ Some (send m))

-- Node x is the first of these events that sends the message.
pub record IsFirstSender (r : Run) (m : Message) (x : Node) : Type 0 where
  pub sends : event_at r.strands x ≡ Some (send m)
  pub place : ℕ
  pub listed : item_at r.events place ≡ Some x
  pub first : (j : ℕ) (y : Node) → item_at r.events j ≡ Some y → event_at r.strands y ≡ Some (send m) → place ≤ j

-- The bundle of a run: its strands, its events as the numbering, and each reception linked to the first sender
-- of its message.
pub record IsBundleOf (r : Run) (b : Bundle) : Type 0 where
  pub strands : b.strands ≡ r.strands
  pub order : b.order ≡ r.events
  pub first_sender : (n : Node) (m : Message) → event_at r.strands n ≡ Some (recv m) → IsFirstSender r m (b.sender n)
