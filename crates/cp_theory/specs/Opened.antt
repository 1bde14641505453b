-- An example of the authentication test: a text that is sent under a key, and received with no key by way of a regular
-- strand and by way of the penetrator, who has the key and makes the encryption too.
use Rattle.std.specs.Prelude.{ℕ, List, [], ◌∷◌, Option, Some, None, Bool, true}
use Rattle.cp_lists.specs.Lists.{item_at}
use Rattle.cp_model.specs.Message.{skey, Key, symmetric, text, key, Message, atom, enc}
use Rattle.cp_model.specs.Term.{skey_variable, symmetric_term, text_variable, Term, atom_term, enc_term}
use Rattle.cp_model.specs.declared.sort.Sort.TheVariants.{Text as text_sort, Skey as skey_sort}
use Rattle.cp_model.specs.Strand.{Role, Protocol, create_atom, encryption, decryption, hearing, regular, penetrator}
use Rattle.cp_model.specs.declared.strand.Event.{Event}
use Rattle.cp_model.specs.declared.strand.Event.TheVariants.{Send as send, Receive as recv}
use Rattle.cp_model.specs.Bundle.{node_at, Bundle}
use Rattle.cp_model.specs.declared.node.Node.{Node}
use Rattle.cp_theory.specs.RepeatedText.{zeros}

abbrev pub example_role_of : List ℕ → List (Event Term) → Role
example_role_of name trace = record {
  name = name;
  variables = record { identifier = 110 ∷ []; sort = text_sort } ∷ record { identifier = 107 ∷ []; sort = skey_sort } ∷ [];
  trace = trace;
  non_originating = [];
  penetrator_non_originating = [];
  uniquely_originating = [];
}

abbrev pub locked_term : Term
locked_term = enc_term (atom_term (text_variable 0)) (symmetric_term (skey_variable 0))

-- One role sends the text under the key.
abbrev pub locker : Role
locker = example_role_of (108 ∷ []) (send locked_term ∷ [])

-- One receives it, and sends it with no key.
abbrev pub opener : Role
opener = example_role_of (111 ∷ []) (recv locked_term ∷ send (atom_term (text_variable 0)) ∷ [])

abbrev pub protocol : Protocol
protocol = record { name = 101 ∷ []; roles = locker ∷ opener ∷ [] }

abbrev pub shared : Key
shared = symmetric (skey 0)

abbrev pub secret : Message
secret = atom (text 0)

abbrev pub locked : Message
locked = enc secret shared

-- For each strand, where what it receives comes from.
abbrev pub senders : List (List Node)
senders = [] ∷ (node_at 0 0 ∷ []) ∷ (node_at 1 1 ∷ []) ∷ [] ∷ (node_at 3 0 ∷ node_at 0 0 ∷ []) ∷ (node_at 4 2 ∷ []) ∷ (node_at 3 0 ∷ node_at 4 2 ∷ []) ∷ (node_at 6 2 ∷ []) ∷ []

abbrev pub in_row : Option (List Node) → List Node
in_row None = []
in_row (Some nodes) = nodes

abbrev pub or_first : Option Node → Node
or_first None = node_at 0 0
or_first (Some n) = n

-- The text is sent under the key, opened by a regular strand, and heard; and the penetrator makes the key, decrypts the
-- text, hears it, encrypts it, and hears the encryption.
abbrev pub opened : Bundle
opened = record {
  strands = regular locker 1 zeros
      ∷ regular opener 2 zeros
      ∷ penetrator (hearing secret)
      ∷ penetrator (create_atom (key shared))
      ∷ penetrator (decryption secret shared)
      ∷ penetrator (hearing secret)
      ∷ penetrator (encryption secret shared)
      ∷ penetrator (hearing locked)
      ∷ [];
  sender = λ n. or_first (item_at (in_row (item_at senders n.strand)) n.index);
  order = node_at 0 0 ∷ node_at 1 0 ∷ node_at 1 1 ∷ node_at 2 0 ∷ node_at 3 0 ∷ node_at 4 0 ∷ node_at 4 1 ∷ node_at 4 2 ∷ node_at 5 0 ∷ node_at 6 0 ∷ node_at 6 1 ∷ node_at 6 2 ∷ node_at 7 0 ∷ [];
}

-- The test: every encryption protects.
abbrev pub every : Message → Key → Bool
every m k = true

-- The reception of the text from the regular strand, that from the penetrator who decrypts, and that of the encryption.
abbrev pub heard_from_opener : Node
heard_from_opener = node_at 2 0

abbrev pub heard_from_decryption : Node
heard_from_decryption = node_at 5 0

abbrev pub heard_from_encryption : Node
heard_from_encryption = node_at 7 0
