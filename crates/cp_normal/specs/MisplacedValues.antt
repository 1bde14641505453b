-- The first unique value that is misplaced.
use Rattle.std.specs.Prelude.{◌≡◌, ◌≢◌, ◌⊎◌, ℕ, ◌<◌, List, Some}
use Rattle.cp_lists.specs.Lists.{item_at, IsIn}
use Rattle.cp_model.specs.Term.{AtomTerm}
use Rattle.cp_model.specs.declared.node.Node.{Node}
use Rattle.cp_model.specs.Skeleton.{UniqueAt, Skeleton}
use Rattle.cp_model.specs.Realisation.{OriginatesAtTerm}
use Rattle.cp_model.specs.Given.{listed}
use Rattle.cp_normal.specs.NormalForms.{IsMisplaced}
use Rattle.cp_skel.specs.Events.{LocatedEvent}

-- The value originates at the node, which is not its recorded origin.
abbrev pub OriginatesElsewhere : Skeleton → Node → UniqueAt → Type 0
OriginatesElsewhere k x u = (x ≢ u.origin) × OriginatesAtTerm k u.value x

-- Another value than v originates at the node, which is not its recorded origin.
abbrev pub IsOtherMisplaced : Skeleton → Node → AtomTerm → UniqueAt → Type 0
IsOtherMisplaced k x v u = OriginatesElsewhere k x u × (u.value ≢ v)

-- Some unique value is misplaced where the event is.
abbrev pub OriginatesMisplaced : Skeleton → LocatedEvent → Type 0
OriginatesMisplaced k o = (u : UniqueAt) × IsIn u k.assumptions.uniquely_originating × OriginatesElsewhere k o.node u

-- No item before this place has the property.
abbrev pub NoneBefore : {A : Type 0} → (A → Type 0) → List A → ℕ → Type 0
NoneBefore {A = A} has xs n = (j : ℕ) (x : A) → j < n → item_at xs j ≡ Some x → has x → ⊥

-- v is the value of the first of the entries that is misplaced at the node.
pub record IsFirstMisplacedAt (k : Skeleton) (x : Node) (entries : List UniqueAt) (v : AtomTerm) : Type 0 where
  pub place : ℕ
  pub entry : UniqueAt
  pub at_place : item_at entries place ≡ Some entry
  pub originates_elsewhere : OriginatesElsewhere k x entry
  pub is_value : entry.value ≡ v
  pub first : NoneBefore (OriginatesElsewhere k x) entries place

-- The node is on a strand of a smaller number, or before the other on its strand.
abbrev pub IsEarlier : Node → Node → Type 0
IsEarlier x y = (x.strand < y.strand) ⊎ ((x.strand ≡ y.strand) × (x.index < y.index))

-- Of all unique values that are misplaced, by strand and index of the node where they originate, and then in the order in which a
-- report lists them, the first is one of value v, at node x.
pub record IsFirstMisplaced (k : Skeleton) (v : AtomTerm) (x : Node) : Type 0 where
  pub here : IsFirstMisplacedAt k x (listed k).uniquely_originating v
  pub earliest : (u : UniqueAt) (y : Node) → IsMisplaced k u y → IsEarlier y x → ⊥
