-- What the penetrator can derive from what was sent, whatever is sent and whatever he cannot make (TACAS 2007,
-- section 4).
use Rattle.std.specs.Prelude.{◌≡◌, ℕ, List, Some}
use Rattle.cp_model.specs.Term.{AtomTerm, key_term, KeyTerm, inverse_term, Term, tag_term, atom_term, pair_term, enc_term}
use Rattle.cp_model.specs.declared.strand.Event.TheVariants.{Send as send}
use Rattle.cp_model.specs.declared.node.Node.{Node}
use Rattle.cp_model.specs.Skeleton.{Skeleton, term_event_at, Before}
use Rattle.cp_model.specs.Derivable.{IsOnInstance}

-- The derivable terms: the least set that holds all tags, all atoms that are not secret, and all that was sent, and
-- that is closed under pairing, under taking a pair apart, under encryption under a member, and under decryption with
-- a member that is the inverse key.
pub data DerivableFrom (secret : AtomTerm → Type 0) (sent : Term → Type 0) : Term → Type 0 where
  a_tag : {bytes : List ℕ} → DerivableFrom secret sent (tag_term bytes)
  an_atom : {v : AtomTerm} → (secret v → ⊥) → DerivableFrom secret sent (atom_term v)
  was_sent : {t : Term} → sent t → DerivableFrom secret sent t
  paired : {a b : Term} → DerivableFrom secret sent a → DerivableFrom secret sent b → DerivableFrom secret sent (pair_term a b)
  left_of : {a b : Term} → DerivableFrom secret sent (pair_term a b) → DerivableFrom secret sent a
  right_of : {a b : Term} → DerivableFrom secret sent (pair_term a b) → DerivableFrom secret sent b
  encrypted : {a : Term} {key : KeyTerm} → DerivableFrom secret sent a → DerivableFrom secret sent (atom_term (key_term key)) → DerivableFrom secret sent (enc_term a key)
  decrypted : {a : Term} {key : KeyTerm} → DerivableFrom secret sent (enc_term a key) → DerivableFrom secret sent (atom_term (key_term (inverse_term key))) → DerivableFrom secret sent a

-- A role strand of the skeleton sends the term strictly before the node.
pub record IsSentBefore (k : Skeleton) (n : Node) (t : Term) : Type 0 where
  pub from : Node
  pub on_instance : IsOnInstance k from
  pub transmission : term_event_at k.strands from ≡ Some (send t)
  pub before : Before k from n
