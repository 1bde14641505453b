-- What is looked for among the events of a skeleton.
use Rattle.std.specs.Prelude.{◌≡◌, ◌≢◌, ◌↔◌, ◌⊎◌, ◌<◌, List}
use Rattle.cp_lists.specs.Lists.{IsIn}
use Rattle.cp_model.specs.Term.{AtomTerm, Term, atom_term, IsCarriedByTerm}
use Rattle.cp_model.specs.Strand.{payload}
use Rattle.cp_model.specs.declared.strand.Event.TheVariants.{Send as send, Receive as recv}
use Rattle.cp_model.specs.Skeleton.{UniqueAt}
use Rattle.cp_model.specs.declared.node.OrderPair.{OrderPair}
use Rattle.cp_skel.specs.Events.{LocatedEvent}
use Rattle.cp_collapse.specs.Property.{Has}

-- The new pairs are the old ones, and those that an item of the list gives.
abbrev pub Gathers : {A : Type 0} → (A → OrderPair → Type 0) → List A → List OrderPair → List OrderPair → Type 0
Gathers gives xs old new = (p : OrderPair) → IsIn p new ↔ (IsIn p old ⊎ Has (λ x. gives x p) xs)

-- The event carries one of the values.
abbrev pub CarriesOne : List AtomTerm → LocatedEvent → Type 0
CarriesOne values o = Has (λ v. IsCarriedByTerm (atom_term v) (payload o.event)) values

-- Another unique value's entry is the same value at another node.
abbrev pub HasOtherOrigin : UniqueAt → UniqueAt → Type 0
HasOtherOrigin u w = (u.value ≡ w.value) × (u.origin ≢ w.origin)

-- The event is a transmission at the recorded origin of a unique value, and carries the value.
abbrev pub IsSentAtOrigin : UniqueAt → LocatedEvent → Type 0
IsSentAtOrigin u o = (m : Term) × (o.event ≡ send m) × IsCarriedByTerm (atom_term u.value) m × (o.node ≡ u.origin)

-- The event is before the recorded origin of a unique value on its strand, and carries the value.
abbrev pub IsCarriedBefore : UniqueAt → LocatedEvent → Type 0
IsCarriedBefore u o = (o.node.strand ≡ u.origin.strand) × (o.node.index < u.origin.index) × IsCarriedByTerm (atom_term u.value) (payload o.event)

-- The pair goes from the recorded origin of a unique value to the event, a reception on another strand that carries the
-- value.
abbrev pub IsPairBetween : LocatedEvent → UniqueAt → OrderPair → Type 0
IsPairBetween o u p =
    (m : Term) × (o.event ≡ recv m) × IsCarriedByTerm (atom_term u.value) m × (u.origin.strand ≢ o.node.strand) × (p ≡ record { earlier = u.origin; later = o.node })
