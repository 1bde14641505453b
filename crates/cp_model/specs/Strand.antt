-- Strands: traces, origination, roles, and the penetrator (CPSA Primer, "Strand Spaces"; TACAS 2007, section 2).
use Rattle.std.specs.Prelude.{◌≡◌, ℕ, ◌<◌, ◌≤◌, List, [], ◌∷◌, ◌++◌, Some, map, take, length}
use Rattle.cp_lists.specs.Lists.{item_at, IsIn}
use Rattle.cp_model.specs.Message.{Key, key, inverse, Atom, Message, tag, atom, pair, enc, IsCarriedBy}
use Rattle.cp_model.specs.Term.{Variable, AtomTerm, Term, atom_term, IsCarriedByTerm, variables_of, variables_of_atom, Assignment, value_of}
-- A declared variable; its number is its place in the list of declarations.
pub use Rattle.cp_model.specs.declared.variable.Declaration.{Declaration}
-- One event of a strand: a transmission or a reception.
pub use Rattle.cp_model.specs.declared.strand.Event.{Event}
pub use Rattle.cp_model.specs.declared.strand.Event.TheVariants.{Send as send, Receive as recv}

abbrev pub payload : {A : Type 0} → Event A → A
payload (send m) = m
payload (recv m) = m

abbrev pub event_map : {A B : Type 0} → (A → B) → Event A → Event B
event_map f (send m) = send (f m)
event_map f (recv m) = recv (f m)

-- A message originates at place i of a trace: the event there is a transmission that carries it, and no earlier
-- event does.
pub record OriginatesIn (trace : List (Event Message)) (v : Message) (i : ℕ) : Type 0 where
  pub sent : Message
  pub transmission : item_at trace i ≡ Some (send sent)
  pub carried : IsCarriedBy v sent
  pub first : (j : ℕ) (e : Event Message) → j < i → item_at trace j ≡ Some e → IsCarriedBy v (payload e) → ⊥

-- The same on terms.
pub record OriginatesInTerms (trace : List (Event Term)) (v : Term) (i : ℕ) : Type 0 where
  pub sent : Term
  pub transmission : item_at trace i ≡ Some (send sent)
  pub carried : IsCarriedByTerm v sent
  pub first : (j : ℕ) (e : Event Term) → j < i → item_at trace j ≡ Some e → IsCarriedByTerm v (payload e) → ⊥

-- A role: its name, its variables, its events, and its assumptions, whose values are of atom sorts.
pub record Role : Type 0 where
  pub name : List ℕ
  pub variables : List Declaration
  pub trace : List (Event Term)
  pub non_originating : List AtomTerm
  pub penetrator_non_originating : List AtomTerm
  pub uniquely_originating : List AtomTerm

pub record Protocol : Type 0 where
  pub name : List ℕ
  pub roles : List Role

-- The first events of a role, as many as the height says.
abbrev pub prefix_of : Role → ℕ → List (Event Term)
prefix_of role height = take height role.trace

-- The variables that occur in a prefix.
abbrev pub variables_of_trace : List (Event Term) → List Variable
variables_of_trace [] = []
variables_of_trace (e ∷ es) = variables_of (payload e) ++ variables_of_trace es

abbrev pub variables_of_prefix : Role → ℕ → List Variable
variables_of_prefix role height = variables_of_trace (prefix_of role height)

-- A height from 1 to the length of the role's trace.
abbrev pub IsHeight : Role → ℕ → Type 0
IsHeight role height = (1 ≤ height) × (height ≤ length role.trace)

-- An assumption of a role applies to an instance when all its variables occur in the prefix.
abbrev pub Applies : Role → ℕ → AtomTerm → Type 0
Applies role height v = (x : Variable) → IsIn x (variables_of_atom v) → IsIn x (variables_of_prefix role height)

-- An assumption of unique origination applies when the prefix reaches its origin in the role's trace, place i.
abbrev pub AppliesAt : Role → ℕ → AtomTerm → ℕ → Type 0
AppliesAt role height v i = OriginatesInTerms role.trace (atom_term v) i × (i < height)

-- The six kinds of strands of the penetrator: he makes a tag or an atom; pairs two messages; splits a pair;
-- encrypts under a key that he receives; decrypts with the inverse key; or just hears a message.
pub data Penetrator : Type 0 where
  create_tag : List ℕ → Penetrator
  create_atom : Atom → Penetrator
  pairing : Message → Message → Penetrator
  splitting : Message → Message → Penetrator
  encryption : Message → Key → Penetrator
  decryption : Message → Key → Penetrator
  hearing : Message → Penetrator

abbrev pub penetrator_trace : Penetrator → List (Event Message)
penetrator_trace (create_tag bytes) = send (tag bytes) ∷ []
penetrator_trace (create_atom a) = send (atom a) ∷ []
penetrator_trace (pairing x y) = recv x ∷ recv y ∷ send (pair x y) ∷ []
penetrator_trace (splitting x y) = recv (pair x y) ∷ send x ∷ send y ∷ []
penetrator_trace (encryption x k) = recv (atom (key k)) ∷ recv x ∷ send (enc x k) ∷ []
penetrator_trace (decryption x k) = recv (atom (key (inverse k))) ∷ recv (enc x k) ∷ send x ∷ []
penetrator_trace (hearing x) = recv x ∷ []

-- A strand of a bundle: an instance of a role, of some height, under an assignment of its variables; or one of
-- the penetrator.
pub data Strand : Type 0 where
  regular : Role → ℕ → Assignment → Strand
  penetrator : Penetrator → Strand

-- The events of a strand; of a regular one the values of the prefix.
abbrev pub trace_of : Strand → List (Event Message)
trace_of (regular role height g) = map (event_map (value_of g)) (prefix_of role height)
trace_of (penetrator p) = penetrator_trace p
