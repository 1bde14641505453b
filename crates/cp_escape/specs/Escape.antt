-- The escape set of a test: the encryptions that keep the critical term, where it was sent, from being taken out of them.
use Rattle.std.specs.Prelude.{◌≡◌, List, [], ◌∷◌, map}
use Rattle.cp_model.specs.Term.{KeyTerm, key_term, inverse_term, Term, atom_term, enc_term}
use Rattle.cp_model.specs.Strand.{payload}
use Rattle.cp_model.specs.declared.node.Node.{Node}
use Rattle.cp_model.specs.Skeleton.{Skeleton}
use Rattle.cp_model.specs.Derivable.{DerivableAt}
use Rattle.cp_model.specs.Same.{same_term}
use Rattle.cp_model.specs.Tree.{Pattern}
use Rattle.cp_model.specs.declared.step.Step.{Step}
use Rattle.cp_model.specs.Positions.{positions_where}
use Rattle.cp_skel.specs.Events.{LocatedEvent, events_of}
use Rattle.cp_theory.specs.Above.{encryptions_above}
use Rattle.cp_cohort.specs.CoveringChildren.{IsTransmissionBefore}
use Rattle.cp_cohort.specs.GatheredLists.{EachGives, AreThoseWith, terms_onto}

-- The first item of a list that has the property.
pub data IsFirstWith {A : Type 0} (has : A → Type 0) : List A → A → Type 0 where
  in_front : {x : A} {xs : List A} → has x → IsFirstWith has (x ∷ xs) x
  further : {x y : A} {xs : List A} → (has y → ⊥) → IsFirstWith has xs x → IsFirstWith has (y ∷ xs) x

-- The encryption cannot be opened at the node: the inverse of its key is not derivable there.
pub record IsUnopenedAt (k : Skeleton) (n : Node) (e : Term) : Type 0 where
  pub body : Term
  pub key : KeyTerm
  pub is_encryption : e ≡ enc_term body key
  pub underivable : DerivableAt k n (atom_term (key_term (inverse_term key))) → ⊥

-- What an occurrence of the critical term, at this position of a message, gives: of the encryptions that properly enclose it
-- the outermost that cannot be opened at the node.
pub record GivesClosed (k : Skeleton) (n : Node) (message : Term) (path : List Step) (es : List Term) : Type 0 where
  pub encryption : Term
  pub outermost : IsFirstWith (IsUnopenedAt k n) (encryptions_above message path) encryption
  pub alone : es ≡ encryption ∷ []

-- The positions at which the critical term stands in a message, in preorder.
abbrev pub positions_of : Term → Term → List (List Step)
positions_of c = positions_where (same_term c)

-- An encryption as a pattern without locals.
abbrev pub whole_pattern : Term → Pattern
whole_pattern e = record { term = e; locals = [] }

-- The escape set of the test of c at n: what the occurrences of c in the transmissions of role strands before n give, by strand,
-- then index, then position; each encryption once.
pub record IsEscape (k : Skeleton) (n : Node) (c : Term) (ps : List Pattern) : Type 0 where
  pub sent : List LocatedEvent
  pub before : AreThoseWith (IsTransmissionBefore k n) (events_of k) sent
  pub encryptions : List Term
  pub each : EachGives (λ o. EachGives (GivesClosed k n (payload o.event)) (positions_of c (payload o.event))) sent encryptions
  pub once : ps ≡ map whole_pattern (terms_onto [] encryptions)
