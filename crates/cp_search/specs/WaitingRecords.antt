-- Labels that wait to be expanded, and what is kept of each.
use Rattle.std.specs.Prelude.{◌≡◌, ◌≢◌, ◌≤◌, ◌+◌, ℕ, [], length, false, Option, Some, None}
use Rattle.slab.specs.Slab.{Slab, get, Updates}
use Rattle.cp_lists.specs.Lists.{item_at}
use Rattle.cp_skel.specs.Events.{events_of}
use Rattle.cp_search.specs.declared.made.Made.{Made}
use Rattle.cp_search.specs.declared.waiting.Waiting.{Waiting}
use Rattle.cp_search.specs.declared.waiting.Queue.{Queue}

-- The label is not dead, seen in no other, and not realised.
pub record Waits (m : Made) : Type 0 where
  pub lives : m.dead ≡ false
  pub new : m.seen_in ≡ None
  pub unrealised : m.unrealised ≢ []

-- The record is of label i: it has its number, and the events of its skeleton.
pub record IsRecordOf (i : ℕ) (m : Made) (w : Waiting) : Type 0 where
  pub number : w.label ≡ i
  pub events : w.events.items ≡ events_of m.skeleton

-- At this key stands the record of label i.
pub record HasRecord (slab : Slab Waiting) (i : ℕ) (m : Made) (key : ℕ) : Type 0 where
  pub waiting : Waiting
  pub stands : get slab key ≡ Some waiting
  pub own : IsRecordOf i m waiting

-- The record of label i stands at its key; if it has no key, it does not wait.
abbrev pub IsKeptAt : Slab Waiting → ℕ → Made → Option ℕ → Type 0
IsKeptAt slab i m None = Waits m → ⊥
IsKeptAt slab i m (Some key) = HasRecord slab i m key

-- The record of label i, which waits, is put at this key, where none was.
pub record PutsRecord (old new : Slab Waiting) (i : ℕ) (m : Made) (key : ℕ) : Type 0 where
  pub waits : Waits m
  pub waiting : Waiting
  pub own : IsRecordOf i m waiting
  pub vacant : get old key ≡ None
  pub updates : Updates old new key (Some waiting)

-- The record of label i is put at its key; if it has no key, it does not wait, and nothing is put.
abbrev pub KeepsLabel : Slab Waiting → Slab Waiting → ℕ → Made → Option ℕ → Type 0
KeepsLabel old new i m None = (Waits m → ⊥) × (new ≡ old)
KeepsLabel old new i m (Some key) = PutsRecord old new i m key

-- What stands at this key is the record of a label from number n on, which waits and has the key.
pub record IsOfWaiting (n : ℕ) (q : Queue) (key : ℕ) (w : Waiting) : Type 0 where
  pub from : n ≤ w.label
  pub label : Made
  pub at : item_at q.made w.label ≡ Some label
  pub own : label.waiting ≡ Some key
  pub waits : Waits label

-- The records of the labels from number n on that wait are kept, and no others.
pub record AreKept (n : ℕ) (q : Queue) : Type 0 where
  pub within : n ≤ length q.made
  pub each : (i : ℕ) (m : Made) → n ≤ i → item_at q.made i ≡ Some m → IsKeptAt q.waiting i m m.waiting
  pub only : (key : ℕ) (w : Waiting) → get q.waiting key ≡ Some w → IsOfWaiting n q key w

-- No record is left.
abbrev pub NoneWaits : Queue → Type 0
NoneWaits q = (key : ℕ) → get q.waiting key ≡ None

-- Labels were made, and the records of those that wait are kept as before.
abbrev pub KeepsRecords : Queue → Queue → Type 0
KeepsRecords old new = (n : ℕ) → AreKept n old → AreKept n new

-- The record of label n was taken out, if that waits; those of the labels behind it are kept.
pub record TakesRecord (n : ℕ) (old new : Queue) (taken : Option Waiting) : Type 0 where
  pub own : (m : Made) → item_at old.made n ≡ Some m → Waits m → (w : Waiting) × (taken ≡ Some w) × IsRecordOf n m w
  pub others : AreKept (n + 1) new
