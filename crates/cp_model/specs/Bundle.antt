-- Bundles: finite graphs of strands in which each reception has its sender (CPSA Primer, "Bundles"; TACAS 2007,
-- section 2).
use Rattle.std.specs.Prelude.{◌≡◌, ℕ, suc, ◌<◌, List, [], Option, Some, None}
use Rattle.cp_lists.specs.Lists.{item_at, IsIn, Steps}
use Rattle.cp_model.specs.Message.{Message, atom}
use Rattle.cp_model.specs.Term.{AtomTerm, Assignment, value_of_atom}
use Rattle.cp_model.specs.Strand.{Event, send, recv, OriginatesIn, Role, Protocol, IsHeight, Applies, AppliesAt, Strand, regular, penetrator, Penetrator, trace_of}
use Rattle.cp_model.specs.declared.node.Node.{Node}

abbrev pub node_at : ℕ → ℕ → Node
node_at s i = record { strand = s; index = i }

-- The events of a strand by its number; past the end there are none.
abbrev pub trace_or_none : Option Strand → List (Event Message)
trace_or_none None = []
trace_or_none (Some s) = trace_of s

abbrev pub event_at : List Strand → Node → Option (Event Message)
event_at strands n = item_at (trace_or_none (item_at strands n.strand)) n.index

-- A message originates at a node.
abbrev pub OriginatesAt : List Strand → Message → Node → Type 0
OriginatesAt strands v n = OriginatesIn (trace_or_none (item_at strands n.strand)) v n.index

-- What assumptions keep in strands. A non-originating value originates nowhere.
abbrev pub KeepsNon : List Strand → Message → Type 0
KeepsNon strands v = (n : Node) → OriginatesAt strands v n → ⊥

-- A penetrator-non-originating value originates on no strand of the penetrator.
abbrev pub KeepsPenetratorNon : List Strand → Message → Type 0
KeepsPenetratorNon strands v = (n : Node) (p : Penetrator) → item_at strands n.strand ≡ Some (penetrator p) → OriginatesAt strands v n → ⊥

-- A unique value originates at its recorded origin, a node of a regular strand, and nowhere else.
pub record KeepsUnique (strands : List Strand) (v : Message) (origin : Node) : Type 0 where
  pub role : Role
  pub height : ℕ
  pub values : Assignment
  pub on_regular : item_at strands origin.strand ≡ Some (regular role height values)
  pub originates : OriginatesAt strands v origin
  pub only : (n : Node) → OriginatesAt strands v n → n ≡ origin

-- Strand number s, if regular, keeps the assumptions of its role that apply to it.
pub record KeepsRole (strands : List Strand) (s : ℕ) (role : Role) (height : ℕ) (g : Assignment) : Type 0 where
  pub non : (v : AtomTerm) → IsIn v role.non_originating → Applies role height v → KeepsNon strands (atom (value_of_atom g v))
  pub penetrator_non : (v : AtomTerm) → IsIn v role.penetrator_non_originating → Applies role height v → KeepsPenetratorNon strands (atom (value_of_atom g v))
  pub unique : (v : AtomTerm) (i : ℕ) → IsIn v role.uniquely_originating → AppliesAt role height v i → KeepsUnique strands (atom (value_of_atom g v)) (node_at s i)

-- Every regular strand is of the protocol and keeps the assumptions of its role.
pub record AreOfProtocol (protocol : Protocol) (strands : List Strand) : Type 0 where
  pub of_role : (s : ℕ) (role : Role) (height : ℕ) (g : Assignment) → item_at strands s ≡ Some (regular role height g) → IsIn role protocol.roles
  pub heights : (s : ℕ) (role : Role) (height : ℕ) (g : Assignment) → item_at strands s ≡ Some (regular role height g) → IsHeight role height
  pub kept : (s : ℕ) (role : Role) (height : ℕ) (g : Assignment) → item_at strands s ≡ Some (regular role height g) → KeepsRole strands s role height g

-- Strands, for each reception the transmission that it is linked to, and a numbering of the nodes: a list in
-- which each stands once.
pub record Bundle : Type 0 where
  pub strands : List Strand
  pub sender : Node → Node
  pub order : List Node

-- One step of the graph: from an event to the next of its strand, or along a link.
pub data BundleStep (b : Bundle) : Node → Node → Type 0 where
  along_strand : {s i : ℕ} {e : Event Message} → event_at b.strands (node_at s (suc i)) ≡ Some e → BundleStep b (node_at s i) (node_at s (suc i))
  along_link : {n : Node} {m : Message} → event_at b.strands n ≡ Some (recv m) → BundleStep b (b.sender n) n

-- x precedes y: a path of at least one step leads from x to y.
abbrev pub Precedes : Bundle → Node → Node → Type 0
Precedes b = Steps (BundleStep b)

-- The list holds each node of the strands, once, and nothing else.
pub record IsListing (strands : List Strand) (nodes : List Node) : Type 0 where
  pub each : (n : Node) (e : Event Message) → event_at strands n ≡ Some e → IsIn n nodes
  pub only : (n : Node) → IsIn n nodes → (e : Event Message) × (event_at strands n ≡ Some e)
  pub once : (i j : ℕ) (n : Node) → item_at nodes i ≡ Some n → item_at nodes j ≡ Some n → i ≡ j

-- A bundle over a protocol: the regular strands are of it and keep its roles' assumptions; each reception is
-- linked to a transmission of the same message; and the numbering rises along strands and links, so that they
-- have no cycle.
pub record IsBundle (protocol : Protocol) (b : Bundle) : Type 0 where
  pub of_protocol : AreOfProtocol protocol b.strands
  pub linked : (n : Node) (m : Message) → event_at b.strands n ≡ Some (recv m) → event_at b.strands (b.sender n) ≡ Some (send m)
  pub listing : IsListing b.strands b.order
  pub rises : (x y : Node) (i j : ℕ) → BundleStep b x y → item_at b.order i ≡ Some x → item_at b.order j ≡ Some y → i < j
