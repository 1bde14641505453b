-- What the penetrator can derive before a node of a skeleton (TACAS 2007, section 4), and skeletons with a reception that
-- is not derivable.
use Rattle.std.specs.Prelude.{◌≡◌, ◌⊎◌, ℕ, List, Some}
use Rattle.cp_lists.specs.Lists.{item_at, IsIn}
use Rattle.cp_model.specs.Term.{AtomTerm, key_term, KeyTerm, inverse_term, Term, tag_term, atom_term, pair_term, enc_term}
use Rattle.cp_model.specs.Bindings.{Binding}
use Rattle.cp_model.specs.Strand.{send, recv, Role}
use Rattle.cp_model.specs.declared.node.Node.{Node}
use Rattle.cp_model.specs.Skeleton.{instance, term_event_at, UniqueAt, Skeleton, Before}

-- The value of a unique value's entry is v.
pub record IsUniqueValue (k : Skeleton) (v : AtomTerm) : Type 0 where
  pub entry : UniqueAt
  pub listed : IsIn entry k.assumptions.uniquely_originating
  pub same : entry.value ≡ v

-- An atom that the penetrator cannot make: one of the assumptions' values.
abbrev pub IsSecret : Skeleton → AtomTerm → Type 0
IsSecret k v = IsIn v k.assumptions.non_originating ⊎ (IsIn v k.assumptions.penetrator_non_originating ⊎ IsUniqueValue k v)

-- The node is on a role strand.
pub record IsOnInstance (k : Skeleton) (n : Node) : Type 0 where
  pub role : Role
  pub height : ℕ
  pub terms : List Binding
  pub on_instance : item_at k.strands n.strand ≡ Some (instance role height terms)

-- The terms derivable at node n: the least set that holds all tags, all atoms that are no assumption's value, and all
-- transmissions of role strands strictly before n, and that is closed under pairing, under taking a pair apart, under
-- encryption under a member, and under decryption with a member that is the inverse key.
pub data DerivableAt (k : Skeleton) (n : Node) : Term → Type 0 where
  a_tag : {bytes : List ℕ} → DerivableAt k n (tag_term bytes)
  an_atom : {v : AtomTerm} → (IsSecret k v → ⊥) → DerivableAt k n (atom_term v)
  sent_before : {m : Node} {t : Term} → IsOnInstance k m → term_event_at k.strands m ≡ Some (send t) → Before k m n → DerivableAt k n t
  paired : {a b : Term} → DerivableAt k n a → DerivableAt k n b → DerivableAt k n (pair_term a b)
  left_of : {a b : Term} → DerivableAt k n (pair_term a b) → DerivableAt k n a
  right_of : {a b : Term} → DerivableAt k n (pair_term a b) → DerivableAt k n b
  encrypted : {a : Term} {key : KeyTerm} → DerivableAt k n a → DerivableAt k n (atom_term (key_term key)) → DerivableAt k n (enc_term a key)
  decrypted : {a : Term} {key : KeyTerm} → DerivableAt k n (enc_term a key) → DerivableAt k n (atom_term (key_term (inverse_term key))) → DerivableAt k n a

-- A skeleton is unrealised when some reception's message is not derivable there.
pub record IsUnrealised (k : Skeleton) : Type 0 where
  pub node : Node
  pub message : Term
  pub reception : term_event_at k.strands node ≡ Some (recv message)
  pub underivable : DerivableAt k node message → ⊥
