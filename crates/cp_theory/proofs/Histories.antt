-- Histories: the events of a bundle that is being made, the newest first.
use Rattle.std.proofs.Common.{◌≡◌, ◌≢◌, ℕ, suc, ◌<◌, arith, List, [], ◌∷◌, refl, sym, ap, subst, ◌⊎◌, inl, inr}
use Rattle.cp_lists.specs.Lists.{IsIn, here, there, Steps, one_step, more_steps}
use Rattle.cp_model.specs.Message.{Message}
use Rattle.cp_model.specs.declared.strand.Event.{Event}
use Rattle.cp_model.specs.declared.strand.Event.TheVariants.{Send as send, Receive as recv}
use Rattle.cp_model.specs.Bundle.{node_at}
use Rattle.cp_model.specs.declared.node.Node.{Node}
use Rattle.cp_model.specs.Skeleton.{Skeleton, Before}
use Rattle.cp_lists.proofs.Reached.{steps_append}
use Rattle.cp_lists.proofs.Members.{of_each}

-- One event: its node in the bundle, the event there, of a reception the node that its message comes from, and the
-- node of the skeleton for which it happens.
pub record Entry : Type 0 where
  pub node : Node
  pub event : Event Message
  pub sender : Node
  pub label : Node

-- A node that has to come before an event: the one before it on its strand, and the one that its message comes from.
pub data IsAfter (e : Entry) : Node → Type 0 where
  after_previous : {s i : ℕ} → e.node ≡ node_at s (suc i) → IsAfter e (node_at s i)
  after_sender : {m : Message} → e.event ≡ recv m → IsAfter e e.sender

-- A step from an event to another.
pub data EntryStep (es : List Entry) : Node → Node → Type 0 where
  entry_step : {e : Entry} {x : Node} → IsIn e es → IsAfter e x → EntryStep es x e.node

abbrev pub Leads : List Entry → Node → Node → Type 0
Leads es = Steps (EntryStep es)

abbrev pub AtOrLeads : List Entry → Node → Node → Type 0
AtOrLeads es x y = (x ≡ y) ⊎ Leads es x y

abbrev pub AtOrBefore : Skeleton → Node → Node → Type 0
AtOrBefore k x y = (x ≡ y) ⊎ Before k x y

-- An event at the node has happened.
pub record HasHappened (es : List Entry) (n : Node) : Type 0 where
  pub entry : Entry
  pub listed : IsIn entry es
  pub same : entry.node ≡ n

-- An event at the node has happened, for a node of the skeleton that is the given one or before it.
pub record HappenedFor (k : Skeleton) (es : List Entry) (n label : Node) : Type 0 where
  pub entry : Entry
  pub listed : IsIn entry es
  pub same : entry.node ≡ n
  pub before : AtOrBefore k entry.label label

-- The message was sent at the node, for a node of the skeleton that is the given one or before it.
pub record SentFor (k : Skeleton) (es : List Entry) (m : Message) (n label : Node) : Type 0 where
  pub entry : Entry
  pub listed : IsIn entry es
  pub same : entry.node ≡ n
  pub sends : entry.event ≡ send m
  pub before : AtOrBefore k entry.label label

-- What an event comes after: what precedes it on its strand has happened, and what it receives was sent.
pub record CameAfter (k : Skeleton) (e : Entry) (es : List Entry) : Type 0 where
  pub previous : (s i : ℕ) → e.node ≡ node_at s (suc i) → HappenedFor k es (node_at s i) e.label
  pub received : (m : Message) → e.event ≡ recv m → SentFor k es m e.sender e.label

-- An event may happen after others: it hasn't happened yet, and all that it comes after has.
pub record MayHappen (k : Skeleton) (e : Entry) (es : List Entry) : Type 0 where
  pub fresh : (x : Entry) → IsIn x es → x.node ≢ e.node
  pub came : CameAfter k e es

-- A history: each event could happen after those behind it.
abbrev pub Chain : Skeleton → List Entry → Type 0
Chain k [] = Unit {0}
Chain k (e ∷ es) = MayHappen k e es × Chain k es

-- Each event of a history is among those of another.
abbrev pub AreKept : List Entry → List Entry → Type 0
AreKept es fs = (e : Entry) → IsIn e es → IsIn e fs

pub happened_kept : {k : Skeleton} {es fs : List Entry} {n label : Node} → AreKept es fs → HappenedFor k es n label → HappenedFor k fs n label
happened_kept kept h = record { entry = h.entry; listed = kept h.entry h.listed; same = h.same; before = h.before }

pub sent_kept : {k : Skeleton} {es fs : List Entry} {m : Message} {n label : Node} → AreKept es fs → SentFor k es m n label → SentFor k fs m n label
sent_kept kept h = record { entry = h.entry; listed = kept h.entry h.listed; same = h.same; sends = h.sends; before = h.before }

pub has_kept : {es fs : List Entry} {n : Node} → AreKept es fs → HasHappened es n → HasHappened fs n
has_kept kept h = record { entry = h.entry; listed = kept h.entry h.listed; same = h.same }

pub step_kept : {es fs : List Entry} → AreKept es fs → {x y : Node} → EntryStep es x y → EntryStep fs x y
step_kept kept (entry_step {e = e} h a) = entry_step (kept e h) a

pub leads_kept : {es fs : List Entry} → AreKept es fs → {x y : Node} → Leads es x y → Leads fs x y
leads_kept kept (one_step s) = one_step (step_kept kept s)
leads_kept kept (more_steps s p) = more_steps (step_kept kept s) (leads_kept kept p)

came_kept : {k : Skeleton} {es fs : List Entry} {e : Entry} → AreKept es fs → CameAfter k e es → CameAfter k e fs
came_kept kept h = record {
  previous = λ s i q. happened_kept kept (h.previous s i q);
  received = λ m q. sent_kept kept (h.received m q);
}

-- What an event of a history came after, in that history.
pub came_after : (k : Skeleton) (es : List Entry) → Chain k es → {e : Entry} → IsIn e es → CameAfter k e es
came_after k [] c h = elim h [ ]
came_after k (f ∷ es) c here = came_kept (λ x i. there i) c.0.came
came_after k (f ∷ es) c (there h) = came_kept (λ x i. there i) (came_after k es c.1 h)

pub before_both : {k : Skeleton} {x y z : Node} → AtOrBefore k x y → AtOrBefore k y z → AtOrBefore k x z
before_both {k} {z = z} (inl e) q = subst (λ w. AtOrBefore k w z) (sym e) q
before_both {k} {x = x} (inr p) (inl e) = inr (subst (Before k x) e p)
before_both (inr p) (inr q) = inr (steps_append p q)

-- The label of what an event comes after is its own or before it.
pub came_for : (k : Skeleton) (e : Entry) (es : List Entry) → CameAfter k e es → {x : Node} → IsAfter e x → HappenedFor k es x e.label
came_for k e es c (after_previous {s = s} {i = i} q) = c.previous s i q
came_for k e es c (after_sender {m = m} q) = let r = c.received m q in record { entry = r.entry; listed = r.listed; same = r.same; before = r.before }

-- An event's entry.
abbrev pub entry_at : ℕ → ℕ → Event Message → Node → Node → Entry
entry_at s i event sender label = record { node = node_at s i; event = event; sender = sender; label = label }

pub may_happen_at : (k : Skeleton) (es : List Entry) (s i : ℕ) (event : Event Message) (sender label : Node) →
    ((x : Entry) → IsIn x es → x.node ≢ node_at s i) → ((j : ℕ) → i ≡ suc j → HappenedFor k es (node_at s j) label) →
    ((m : Message) → event ≡ recv m → SentFor k es m sender label) → MayHappen k (entry_at s i event sender label) es
may_happen_at k es s i event sender label fresh last received = record {
  fresh = fresh;
  came = record {
    previous = λ t j q.
        let on : s ≡ t = ap (λ (n : Node). n.strand) q in
        let at : i ≡ suc j = ap (λ (n : Node). n.index) q in
        subst (λ z. HappenedFor k es (node_at z j) label) on (last j at);
    received = received;
  };
}

-- A strand has come to place i, for the label.
pub record HasComeTo (k : Skeleton) (es : List Entry) (s i : ℕ) (label : Node) : Type 0 where
  pub below : (x : Entry) → IsIn x es → x.node.strand ≡ s → x.node.index < i
  pub last : (j : ℕ) → i ≡ suc j → HappenedFor k es (node_at s j) label

pub may_come_next : (k : Skeleton) (es : List Entry) (s i : ℕ) (event : Event Message) (sender label : Node) → HasComeTo k es s i label →
    ((m : Message) → event ≡ recv m → SentFor k es m sender label) → MayHappen k (entry_at s i event sender label) es
may_come_next k es s i event sender label so received =
    may_happen_at k es s i event sender label
    (λ x h q.
    let l : x.node.index < i = so.below x h (ap (λ (n : Node). n.strand) q) in
    let e : x.node.index ≡ i = ap (λ (n : Node). n.index) q in
    omega arith)
    so.last received

pub has_come_next : (k : Skeleton) (es : List Entry) (s i : ℕ) (event : Event Message) (sender label : Node) → HasComeTo k es s i label →
    HasComeTo k (entry_at s i event sender label ∷ es) s (suc i) label
has_come_next k es s i event sender label so = record {
  below = λ x h. of_each (λ (y : Entry). y.node.strand ≡ s → y.node.index < suc i) (λ q. omega arith)
      (λ h' q. let l : x.node.index < i = so.below x h' q in omega arith) h;
  last = λ j q. let e : i ≡ j = omega arith in
      subst (λ z. HappenedFor k (entry_at s i event sender label ∷ es) (node_at s z) label) e
      (record { entry = entry_at s i event sender label; listed = here; same = refl; before = inl refl });
}
