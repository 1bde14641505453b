-- Ground messages of the basic crypto algebra (CPSA Primer, "Algebra"; CPSA Specification, "Message Algebra").
--
-- They are plain data, well sorted by construction: a number is that of an atom, and atoms of one sort with
-- different numbers are different. Equality of messages is equality of the data.
use Rattle.std.specs.Prelude.{ℕ, List, Option, Bool, not}

-- A symmetric key: an atom of sort skey, or the long-term key of two names.
pub data SymmetricKey : Type 0 where
  skey : ℕ → SymmetricKey
  ltk : ℕ → ℕ → SymmetricKey

-- Two asymmetric keys that are each other's inverse: an atom of sort akey with its inverse, or the keys of a
-- name for a purpose or for none.
pub data KeyPair : Type 0 where
  akey : ℕ → KeyPair
  pubk : Option (List ℕ) → ℕ → KeyPair

-- A key. Of an asymmetric one the flag says whether it is the inverse (of `pubk`: the private key).
pub data Key : Type 0 where
  symmetric : SymmetricKey → Key
  asymmetric : Bool → KeyPair → Key

-- A message of one of the five atom sorts.
pub data Atom : Type 0 where
  text : ℕ → Atom
  datum : ℕ → Atom
  name : ℕ → Atom
  key : Key → Atom

-- A message: a tag, an atom, a pair, or the encryption of a message under a key.
pub data Message : Type 0 where
  tag : List ℕ → Message
  atom : Atom → Message
  pair : Message → Message → Message
  enc : Message → Key → Message

-- The inverse of a key: of an asymmetric one the other of its pair; a symmetric one is its own.
abbrev pub inverse : Key → Key
inverse (symmetric k) = symmetric k
inverse (asymmetric flag k) = asymmetric (not flag) k

-- What a message carries: itself, what the parts of its pair carry, and what the plaintext of its encryption
-- carries; not the key of its encryption.
pub data IsCarriedBy (v : Message) : Message → Type 0 where
  itself : IsCarriedBy v v
  in_left : {a b : Message} → IsCarriedBy v a → IsCarriedBy v (pair a b)
  in_right : {a b : Message} → IsCarriedBy v b → IsCarriedBy v (pair a b)
  in_plaintext : {a : Message} {k : Key} → IsCarriedBy v a → IsCarriedBy v (enc a k)
