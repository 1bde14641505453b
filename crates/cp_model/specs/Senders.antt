-- First senders, and the senders of all receptions of some traces.
use Rattle.std.specs.Prelude.{◌≡◌, ◌⊎◌, List, [], ◌∷◌, Option, Some, None}
use Rattle.cp_model.specs.Message.{Message}
use Rattle.cp_model.specs.Strand.{Event, send, recv}
use Rattle.cp_model.specs.declared.node.Node.{Node}
use Rattle.cp_model.specs.RunView.{event_in}

-- The first item of the list that is so, or none where none is.
abbrev pub IsFirst : {A : Type 0} → (A → Type 0) → List A → Option A → Type 0
IsFirst P [] found = found ≡ None
IsFirst P (x ∷ xs) found = (P x × (found ≡ Some x)) ⊎ ((P x → ⊥) × IsFirst P xs found)

-- The lists are as long as each other, and the items at each place are related.
abbrev pub ArePaired : {A B : Type 0} → (A → B → Type 0) → List A → List B → Type 0
ArePaired R [] [] = Unit {0}
ArePaired R (x ∷ xs) (y ∷ ys) = R x y × ArePaired R xs ys
ArePaired R [] (y ∷ ys) = ⊥
ArePaired R (x ∷ xs) [] = ⊥

-- The node sends the message.
abbrev pub Sends : List (List (Event Message)) → Message → Node → Type 0
Sends traces m n = event_in traces n ≡ Some (send m)

-- What an event is linked to: a reception to the first of the nodes that sends its message, if one does, a transmission
-- to none.
abbrev pub IsSenderOf : List (List (Event Message)) → List Node → Event Message → Option Node → Type 0
IsSenderOf traces nodes (send m) sender = sender ≡ None
IsSenderOf traces nodes (recv m) sender = IsFirst (Sends traces m) nodes sender

-- What each event of a trace is linked to.
abbrev pub AreSendersOf : List (List (Event Message)) → List Node → List (Event Message) → List (Option Node) → Type 0
AreSendersOf traces nodes = ArePaired (IsSenderOf traces nodes)
