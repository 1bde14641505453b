-- How the escape set is gathered, from what is given to the penetrator at the node.
use Rattle.std.specs.Prelude.{◌≡◌, List, [], ◌∷◌, Bool, true, false, Some}
use Rattle.cp_model.specs.Term.{KeyTerm, key_term, inverse_term, Term, atom_term, enc_term}
use Rattle.cp_model.specs.Strand.{payload}
use Rattle.cp_model.specs.declared.node.Node.{Node}
use Rattle.cp_model.specs.Skeleton.{Skeleton}
use Rattle.cp_model.specs.declared.step.Step.{Step}
use Rattle.cp_model.specs.Positions.{term_at}
use Rattle.cp_skel.specs.Events.{LocatedEvent, events_of}
use Rattle.cp_derive.specs.Given.{Given, IsDerivable}
use Rattle.cp_theory.specs.Above.{encryptions_above}
use Rattle.cp_cohort.specs.CoveringChildren.{IsTransmissionBefore}
use Rattle.cp_cohort.specs.GatheredLists.{EachGives, AreThoseWith, terms_onto}
use Rattle.cp_escape.specs.Escape.{IsFirstWith, GivesClosed, positions_of}

-- The encryption cannot be opened from what is given.
pub record IsClosedTo (g : Given) (e : Term) : Type 0 where
  pub body : Term
  pub key : KeyTerm
  pub is_encryption : e ≡ enc_term body key
  pub underivable : IsDerivable g (atom_term (key_term (inverse_term key))) → ⊥

-- It can be opened.
abbrev pub IsOpenTo : Given → Term → Type 0
IsOpenTo g e = (body : Term) (key : KeyTerm) → e ≡ enc_term body key → IsDerivable g (atom_term (key_term (inverse_term key)))

-- The answer tells whether it is closed.
abbrev pub TellsClosed : Given → Term → Bool → Type 0
TellsClosed g e true = IsClosedTo g e
TellsClosed g e false = IsOpenTo g e

-- The term at the position of the message cannot be derived, while the message can.
pub record IsHidden (g : Given) (message : Term) (path : List Step) : Type 0 where
  pub part : Term
  pub there : term_at message path ≡ Some part
  pub derivable : IsDerivable g message
  pub underivable : IsDerivable g part → ⊥

-- What the position gives: of the encryptions that properly enclose it the outermost that is closed.
pub record GivesClosedTo (g : Given) (message : Term) (path : List Step) (es : List Term) : Type 0 where
  pub encryption : Term
  pub outermost : IsFirstWith (IsClosedTo g) (encryptions_above message path) encryption
  pub alone : es ≡ encryption ∷ []

-- Behind the old terms stand those that are given, each once.
pub record PutsTerms (gives : List Term → Type 0) (old new : List Term) : Type 0 where
  pub given : List Term
  pub gives_them : gives given
  pub onto : new ≡ terms_onto old given

-- An item without the property gives nothing.
pub data GivesIf {A B : Type 0} (has : A → Type 0) (gives : A → List B → Type 0) : A → List B → Type 0 where
  without_it : {x : A} → (has x → ⊥) → GivesIf has gives x []
  with_it : {x : A} {ys : List B} → has x → gives x ys → GivesIf has gives x ys

-- The encryptions that the occurrences of c in what was sent before n give, each once.
pub record AreClosedBefore (k : Skeleton) (n : Node) (c : Term) (es : List Term) : Type 0 where
  pub sent : List LocatedEvent
  pub before : AreThoseWith (IsTransmissionBefore k n) (events_of k) sent
  pub encryptions : List Term
  pub each : EachGives (λ o. EachGives (GivesClosed k n (payload o.event)) (positions_of c (payload o.event))) sent encryptions
  pub once : es ≡ terms_onto [] encryptions
