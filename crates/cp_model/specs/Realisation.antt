-- What makes a skeleton realised: its assumptions are true of its role strands, and all of its receptions are derivable.
use Rattle.std.specs.Prelude.{◌≡◌, Some}
use Rattle.cp_lists.specs.Lists.{item_at, IsIn}
use Rattle.cp_model.specs.Term.{AtomTerm, Term, atom_term}
use Rattle.cp_model.specs.Strand.{recv, OriginatesInTerms}
use Rattle.cp_model.specs.declared.node.Node.{Node}
use Rattle.cp_model.specs.Skeleton.{skeleton_trace_or_none, term_event_at, UniqueAt, Skeleton}
use Rattle.cp_model.specs.Derivable.{IsOnInstance, DerivableAt}

-- A term originates at a node of a role strand.
abbrev pub OriginatesAtTerm : Skeleton → AtomTerm → Node → Type 0
OriginatesAtTerm k v n = IsOnInstance k n × OriginatesInTerms (skeleton_trace_or_none (item_at k.strands n.strand)) (atom_term v) n.index

-- The assumptions are true of the role strands: a non-originating value originates nowhere, and a unique value
-- originates at its recorded origin and nowhere else.
pub record KeepsAssumptions (k : Skeleton) : Type 0 where
  pub non : (v : AtomTerm) (n : Node) → IsIn v k.assumptions.non_originating → OriginatesAtTerm k v n → ⊥
  pub unique : (u : UniqueAt) → IsIn u k.assumptions.uniquely_originating → OriginatesAtTerm k u.value u.origin
  pub only : (u : UniqueAt) (n : Node) → IsIn u k.assumptions.uniquely_originating → OriginatesAtTerm k u.value n → n ≡ u.origin

-- Every reception, listeners' included, has a message that is derivable there.
abbrev pub AllDerivable : Skeleton → Type 0
AllDerivable k = (n : Node) (t : Term) → term_event_at k.strands n ≡ Some (recv t) → DerivableAt k n t
