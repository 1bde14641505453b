-- Skeletons of one strand that only transmits.
use Rattle.std.specs.Prelude.{◌≡◌, ℕ, List, [], ◌∷◌, Some}
use Rattle.cp_lists.specs.Lists.{item_at, IsIn}
use Rattle.cp_model.specs.Term.{AtomTerm, Term, atom_term}
use Rattle.cp_model.specs.Bindings.{Binding}
use Rattle.cp_model.specs.Strand.{Event, send, OriginatesInTerms, Role, Protocol, prefix_of}
use Rattle.cp_model.specs.Skeleton.{instance, skeleton_trace, UniqueAt, Skeleton, IsSkeleton}

-- A skeleton over a protocol of one role strand whose events are all transmissions, and whose assumptions are true
-- of that strand: no non-originating value originates on it, and each unique value originates at its recorded origin.
pub record IsOneSendingStrand (protocol : Protocol) (k : Skeleton) : Type 0 where
  pub is_skeleton : IsSkeleton protocol k
  pub role : Role
  pub height : ℕ
  pub terms : List Binding
  pub one : k.strands ≡ instance role height terms ∷ []
  pub sends : (i : ℕ) (e : Event Term) → item_at (prefix_of role height) i ≡ Some e → (t : Term) × (e ≡ send t)
  pub non : (v : AtomTerm) (i : ℕ) → IsIn v k.assumptions.non_originating → OriginatesInTerms (skeleton_trace (instance role height terms)) (atom_term v) i → ⊥
  pub unique : (u : UniqueAt) → IsIn u k.assumptions.uniquely_originating → OriginatesInTerms (skeleton_trace (instance role height terms)) (atom_term u.value) u.origin.index
