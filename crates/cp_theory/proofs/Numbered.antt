-- Bundles whose strands are told their roles, and whose nodes are told their places in the numbering.
use Rattle.std.proofs.Common.{◌≡◌, ℕ, suc, ◌<◌, List, Some, sym, ◌∙◌, arith}
use Rattle.cp_lists.specs.Lists.{item_at, IsIn}
use Rattle.cp_model.specs.Message.{Message}
use Rattle.cp_model.specs.Term.{Assignment}
use Rattle.cp_model.specs.Strand.{Role, IsHeight, Protocol, Strand, regular}
use Rattle.cp_model.specs.declared.strand.Event.{Event}
use Rattle.cp_model.specs.declared.strand.Event.TheVariants.{Send as send, Receive as recv}
use Rattle.cp_model.specs.Bundle.{node_at, event_at, KeepsRole, AreOfProtocol, Bundle, BundleStep, along_strand, along_link, IsBundle}
use Rattle.cp_model.specs.declared.node.Node.{Node}

-- A regular strand is of a role of the protocol, and keeps its assumptions.
abbrev pub IsOfRole : Protocol → List Strand → ℕ → Role → ℕ → Assignment → Type 0
IsOfRole protocol strands s role height g = IsIn role protocol.roles × IsHeight role height × KeepsRole strands s role height g

pub of_roles : (protocol : Protocol) (strands : List Strand) → ((s : ℕ) (role : Role) (height : ℕ) (g : Assignment) → item_at strands s ≡ Some (regular role height g) → IsOfRole protocol strands s role height g) → AreOfProtocol protocol strands
of_roles protocol strands each = record { of_role = λ s r h g at. (each s r h g at).0; heights = λ s r h g at. (each s r h g at).1; kept = λ s r h g at. (each s r h g at).2 }

module _ (protocol : Protocol) (b : Bundle) (place : Node → ℕ) where
  -- A reception is linked to a transmission of its message, at an earlier place.
  abbrev pub IsLinked : Type 0
  IsLinked = (s i : ℕ) (m : Message) → event_at b.strands (node_at s i) ≡ Some (recv m) →
      (event_at b.strands (b.sender (node_at s i)) ≡ Some (send m)) × (place (b.sender (node_at s i)) < place (node_at s i))

  step_rises : ((s i : ℕ) → place (node_at s i) < place (node_at s (suc i))) → IsLinked → {x y : Node} → BundleStep b x y → place x < place y
  step_rises up linked (along_strand {s = s} {i = i} e) = up s i
  step_rises up linked (along_link {n = n} {m = m} e) = (linked n.strand n.index m e).1

  pub is_numbered : AreOfProtocol protocol b.strands → ((s i : ℕ) → place (node_at s i) < place (node_at s (suc i))) → IsLinked →
      ((s i : ℕ) (e : Event Message) → event_at b.strands (node_at s i) ≡ Some e → IsIn (node_at s i) b.order) →
      ((n : Node) → IsIn n b.order → (e : Event Message) × (event_at b.strands n ≡ Some e)) →
      ((i : ℕ) (n : Node) → item_at b.order i ≡ Some n → i ≡ place n) → IsBundle protocol b
  is_numbered of_protocol up linked listed there_is place_is = record {
    of_protocol = of_protocol;
    linked = λ n m e. (linked n.strand n.index m e).0;
    listing = record { each = λ n e at. listed n.strand n.index e at; only = there_is; once = λ i j n a c. place_is i n a ∙ sym (place_is j n c) };
    rises = λ x y i j st a c.
        let l = step_rises up linked st in
        let p = place_is i x a in
        let q = place_is j y c in
        omega (arith, l, p, q);
  }
