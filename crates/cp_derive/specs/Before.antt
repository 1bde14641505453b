-- What was sent before a node of a skeleton, by the order's pairs alone.
use Rattle.std.specs.Prelude.{◌≡◌, ℕ, List, [], ◌∷◌, Option, Some, None, refl}
use Rattle.std.specs.Coded.{Coded, code_by, coded_list, coded_ℕ, coded×}
use Rattle.cp_lists.specs.Lists.{item_at, IsIn}
use Rattle.cp_model.specs.Term.{Term}
use Rattle.cp_model.specs.declared.node.Node.{Node}
use Rattle.cp_model.specs.Skeleton.{Skeleton}
use Rattle.cp_model.specs.declared.node.OrderPair.{OrderPair}
use Rattle.cp_model.specs.Order.{ReachesAlong}
use Rattle.cp_derive.specs.Given.{Given}
use Rattle.cp_skel.specs.Code.{coded_skeleton}
use Rattle.cp_skel.specs.Events.{events_of}
use Rattle.cp_derive.specs.Transmissions.{Transmission, transmissions_among}
use Rattle.cp_derive.specs.Assumed.{assumed_values}

-- Node m reaches another one, n.
abbrev pub LeadsToOther : List OrderPair → Node → Node → Type 0
LeadsToOther pairs m n = ReachesAlong pairs m n × (m ≡ n → ⊥)

-- These are the places of the transmissions that reach another node, n.
pub record ArePlacesBefore (pairs : List OrderPair) (n : Node) (ts : List Transmission) (places : List ℕ) : Type 0 where
  pub each : (p : ℕ) (t : Transmission) → item_at ts p ≡ Some t → LeadsToOther pairs t.node n → IsIn p places
  pub only : (p : ℕ) (t : Transmission) → item_at ts p ≡ Some t → IsIn p places → LeadsToOther pairs t.node n

-- The messages of the transmissions at these places.
abbrev pub message_onto : Option Transmission → List Term → List Term
message_onto None rest = rest
message_onto (Some t) rest = t.message ∷ rest

abbrev pub messages_at : List ℕ → List Transmission → List Term
messages_at [] ts = []
messages_at (p ∷ ps) ts = message_onto (item_at ts p) (messages_at ps ts)

-- What role strands of a skeleton send.
abbrev pub transmissions_of : Skeleton → List Transmission
transmissions_of k = transmissions_among (events_of k)

-- What is given where the transmissions at these places came before.
abbrev pub given_by : Skeleton → List ℕ → Given
given_by k places = record { sent = messages_at places (transmissions_of k); secrets = assumed_values k.assumptions }

-- These are what the role strands of a skeleton send, and its pairs.
pub record IsSurveyed (k : Skeleton) (sent : List Transmission) (pairs : List OrderPair) : Type 0 where
  pub transmissions : sent ≡ transmissions_of k
  pub along : pairs ≡ k.pairs

-- A skeleton, and places in the list of what its role strands send.
pub record PlacesIn : Type 0 where
  pub skeleton : Skeleton
  pub places : List ℕ

abbrev pub coded_places_in : Coded PlacesIn
coded_places_in =
    code_by (Skeleton × List ℕ) (coded× coded_skeleton (coded_list coded_ℕ)) (λ p. (p.skeleton, p.places)) (λ p. record { skeleton = p.0; places = p.1 }) (λ _. refl)
