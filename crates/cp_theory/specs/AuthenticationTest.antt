-- The authentication test on ground messages: how a message comes to be received outside the encryptions that protect it.
use Rattle.std.specs.Prelude.{◌≡◌, ◌≢◌, ◌⊎◌, ℕ, ◌<◌, List, Some, Bool, true, false}
use Rattle.cp_lists.specs.Lists.{item_at}
use Rattle.cp_model.specs.Message.{Key, inverse, Atom, Message, tag, atom, pair, enc}
use Rattle.cp_model.specs.Term.{Assignment}
use Rattle.cp_model.specs.Strand.{payload, Role, create_tag, create_atom, encryption, decryption, regular, penetrator}
use Rattle.cp_model.specs.declared.strand.Event.{Event}
use Rattle.cp_model.specs.declared.strand.Event.TheVariants.{Send as send, Receive as recv}
use Rattle.cp_model.specs.KeyMessage.{key_message}
use Rattle.cp_model.specs.Bundle.{node_at, event_at, Bundle, Precedes}
use Rattle.cp_model.specs.declared.node.Node.{Node}

-- The message c stands in a message at a carried position that no protecting encryption encloses: it is the message, or
-- stands so in a part of the pair, or in the plaintext of the encryption, which does not protect. The test says which
-- encryptions, of a plaintext under a key, protect.
pub data IsOutside (protects : Message → Key → Bool) (c : Message) : Message → Type 0 where
  is_whole : IsOutside protects c c
  outside_left : {x y : Message} → IsOutside protects c x → IsOutside protects c (pair x y)
  outside_right : {x y : Message} → IsOutside protects c y → IsOutside protects c (pair x y)
  outside_plaintext : {x : Message} {k : Key} → protects x k ≡ false → IsOutside protects c x → IsOutside protects c (enc x k)

-- The message is no pair.
abbrev pub IsNoPairMessage : Message → Type 0
IsNoPairMessage c = (x y : Message) → c ≢ pair x y

-- No strand on which the penetrator makes a tag or an atom makes c.
pub record IsNotCreated (b : Bundle) (c : Message) : Type 0 where
  pub no_tag : (s : ℕ) (bytes : List ℕ) → item_at b.strands s ≡ Some (penetrator (create_tag bytes)) → c ≢ tag bytes
  pub no_atom : (s : ℕ) (a : Atom) → item_at b.strands s ≡ Some (penetrator (create_atom a)) → c ≢ atom a

-- A regular strand sends c outside before n: at a node that precedes n, in a message in which c stands outside, while in
-- no earlier event of the strand it does.
pub record IsReleased (b : Bundle) (protects : Message → Key → Bool) (c : Message) (n : Node) : Type 0 where
  pub node : Node
  pub role : Role
  pub height : ℕ
  pub values : Assignment
  pub on_regular : item_at b.strands node.strand ≡ Some (regular role height values)
  pub sent : Message
  pub transmission : event_at b.strands node ≡ Some (send sent)
  pub outside : IsOutside protects c sent
  pub first : (i : ℕ) (e : Event Message) → i < node.index → event_at b.strands (node_at node.strand i) ≡ Some e → IsOutside protects c (payload e) → ⊥
  pub earlier : Precedes b node n

-- The penetrator makes c by encryption before n: c is an encryption, and a strand of his that makes it has received its
-- key and its plaintext at nodes that precede n.
pub record IsEncrypted (b : Bundle) (c : Message) (n : Node) : Type 0 where
  pub plaintext : Message
  pub key : Key
  pub is_encryption : c ≡ enc plaintext key
  pub strand : ℕ
  pub on_penetrator : item_at b.strands strand ≡ Some (penetrator (encryption plaintext key))
  pub key_received : event_at b.strands (node_at strand 0) ≡ Some (recv (key_message key))
  pub key_earlier : Precedes b (node_at strand 0) n
  pub plaintext_received : event_at b.strands (node_at strand 1) ≡ Some (recv plaintext)
  pub plaintext_earlier : Precedes b (node_at strand 1) n

-- The penetrator takes c out of a protecting encryption before n: c stands outside in the plaintext and not outside in the
-- encryption, and a strand of his that decrypts it has received the inverse key and the encryption at nodes that precede n.
pub record IsDecrypted (b : Bundle) (protects : Message → Key → Bool) (c : Message) (n : Node) : Type 0 where
  pub plaintext : Message
  pub key : Key
  pub protected : protects plaintext key ≡ true
  pub outside : IsOutside protects c plaintext
  pub not_outside : IsOutside protects c (enc plaintext key) → ⊥
  pub strand : ℕ
  pub on_penetrator : item_at b.strands strand ≡ Some (penetrator (decryption plaintext key))
  pub key_received : event_at b.strands (node_at strand 0) ≡ Some (recv (key_message (inverse key)))
  pub key_earlier : Precedes b (node_at strand 0) n
  pub encryption_received : event_at b.strands (node_at strand 1) ≡ Some (recv (enc plaintext key))
  pub encryption_earlier : Precedes b (node_at strand 1) n

-- The outcomes of the test for c and a reception n: a regular strand, or the penetrator by encryption or decryption.
abbrev pub IsAnswered : Bundle → (Message → Key → Bool) → Message → Node → Type 0
IsAnswered b protects c n = IsReleased b protects c n ⊎ (IsEncrypted b c n ⊎ IsDecrypted b protects c n)
