-- A message written down as a list of tokens, in postfix, from which it is read back by a machine with a stack. So
-- messages are told apart by lists of numbers.
use Rattle.std.specs.Prelude.{◌≡◌, ◌⊎◌, ℕ, Bool, List, [], ◌∷◌, ◌++◌, Option, refl}
use Rattle.std.specs.Coded.{Coded, code_by, coded_ℕ, coded_bool, coded_list, coded_option, coded×, coded⊎}
use Rattle.std.proofs.Common.{inl, inr, ◌∙◌, ap, sym, append_assoc}
use Rattle.std.proofs.lemmas.List.{append-nil}
use Rattle.cp_model.specs.Message.{SymmetricKey, skey, ltk, KeyPair, akey, pubk, Key, symmetric, asymmetric, Atom, text, datum, name, key, Message, tag, atom, pair, enc}

abbrev symmetric_parts : SymmetricKey → ℕ ⊎ (ℕ × ℕ)
symmetric_parts (skey n) = inl n
symmetric_parts (ltk a b) = inr (a, b)

abbrev symmetric_from : ℕ ⊎ (ℕ × ℕ) → SymmetricKey
symmetric_from (inl n) = skey n
symmetric_from (inr p) = ltk p.0 p.1

pub symmetric_back : (k : SymmetricKey) → symmetric_from (symmetric_parts k) ≡ k
symmetric_back (skey n) = refl
symmetric_back (ltk a b) = refl

abbrev coded_symmetric : Coded SymmetricKey
coded_symmetric = code_by (ℕ ⊎ (ℕ × ℕ)) (coded⊎ coded_ℕ (coded× coded_ℕ coded_ℕ)) symmetric_parts symmetric_from symmetric_back

abbrev pair_parts : KeyPair → ℕ ⊎ (Option (List ℕ) × ℕ)
pair_parts (akey n) = inl n
pair_parts (pubk purpose a) = inr (purpose, a)

abbrev pair_from : ℕ ⊎ (Option (List ℕ) × ℕ) → KeyPair
pair_from (inl n) = akey n
pair_from (inr p) = pubk p.0 p.1

pub pair_back : (k : KeyPair) → pair_from (pair_parts k) ≡ k
pair_back (akey n) = refl
pair_back (pubk purpose a) = refl

abbrev coded_pair : Coded KeyPair
coded_pair = code_by (ℕ ⊎ (Option (List ℕ) × ℕ)) (coded⊎ coded_ℕ (coded× (coded_option (coded_list coded_ℕ)) coded_ℕ)) pair_parts pair_from pair_back

abbrev key_parts : Key → SymmetricKey ⊎ (Bool × KeyPair)
key_parts (symmetric k) = inl k
key_parts (asymmetric flag k) = inr (flag, k)

abbrev key_from : SymmetricKey ⊎ (Bool × KeyPair) → Key
key_from (inl k) = symmetric k
key_from (inr p) = asymmetric p.0 p.1

pub key_back : (k : Key) → key_from (key_parts k) ≡ k
key_back (symmetric k) = refl
key_back (asymmetric flag k) = refl

abbrev pub coded_key : Coded Key
coded_key = code_by (SymmetricKey ⊎ (Bool × KeyPair)) (coded⊎ coded_symmetric (coded× coded_bool coded_pair)) key_parts key_from key_back

abbrev atom_parts : Atom → (ℕ ⊎ ℕ) ⊎ (ℕ ⊎ Key)
atom_parts (text n) = inl (inl n)
atom_parts (datum n) = inl (inr n)
atom_parts (name n) = inr (inl n)
atom_parts (key k) = inr (inr k)

abbrev atom_from_left : ℕ ⊎ ℕ → Atom
atom_from_left (inl n) = text n
atom_from_left (inr n) = datum n

abbrev atom_from_right : ℕ ⊎ Key → Atom
atom_from_right (inl n) = name n
atom_from_right (inr k) = key k

abbrev atom_from : (ℕ ⊎ ℕ) ⊎ (ℕ ⊎ Key) → Atom
atom_from (inl p) = atom_from_left p
atom_from (inr p) = atom_from_right p

pub atom_back : (a : Atom) → atom_from (atom_parts a) ≡ a
atom_back (text n) = refl
atom_back (datum n) = refl
atom_back (name n) = refl
atom_back (key k) = refl

abbrev pub coded_atom : Coded Atom
coded_atom = code_by ((ℕ ⊎ ℕ) ⊎ (ℕ ⊎ Key)) (coded⊎ (coded⊎ coded_ℕ coded_ℕ) (coded⊎ coded_ℕ coded_key)) atom_parts atom_from atom_back

-- One token: a tag, an atom, that the two messages before it are a pair, or that the one before it is encrypted.
pub data Token : Type 0 where
  tag_token : List ℕ → Token
  atom_token : Atom → Token
  pair_token : Token
  enc_token : Key → Token

abbrev token_parts : Token → (List ℕ ⊎ Atom) ⊎ (ℕ ⊎ Key)
token_parts (tag_token bytes) = inl (inl bytes)
token_parts (atom_token a) = inl (inr a)
token_parts pair_token = inr (inl 0)
token_parts (enc_token k) = inr (inr k)

abbrev token_from_left : List ℕ ⊎ Atom → Token
token_from_left (inl bytes) = tag_token bytes
token_from_left (inr a) = atom_token a

abbrev token_from_right : ℕ ⊎ Key → Token
token_from_right (inl n) = pair_token
token_from_right (inr k) = enc_token k

abbrev token_from : (List ℕ ⊎ Atom) ⊎ (ℕ ⊎ Key) → Token
token_from (inl p) = token_from_left p
token_from (inr p) = token_from_right p

pub token_back : (t : Token) → token_from (token_parts t) ≡ t
token_back (tag_token bytes) = refl
token_back (atom_token a) = refl
token_back pair_token = refl
token_back (enc_token k) = refl

abbrev coded_token : Coded Token
coded_token = code_by ((List ℕ ⊎ Atom) ⊎ (ℕ ⊎ Key)) (coded⊎ (coded⊎ (coded_list coded_ℕ) coded_atom) (coded⊎ coded_ℕ coded_key)) token_parts token_from token_back

-- A message in postfix.
abbrev pub tokens : Message → List Token
tokens (tag bytes) = tag_token bytes ∷ []
tokens (atom a) = atom_token a ∷ []
tokens (pair a b) = tokens a ++ (tokens b ++ (pair_token ∷ []))
tokens (enc a k) = tokens a ++ (enc_token k ∷ [])

-- One step of the machine: what a token does to the stack, whose top stands first.
abbrev paired_top : List Message → List Message
paired_top (b ∷ (a ∷ stack)) = pair a b ∷ stack
paired_top stack = stack

abbrev encrypted : Key → List Message → List Message
encrypted k (a ∷ stack) = enc a k ∷ stack
encrypted k [] = []

abbrev step : Token → List Message → List Message
step (tag_token bytes) stack = tag bytes ∷ stack
step (atom_token a) stack = atom a ∷ stack
step pair_token stack = paired_top stack
step (enc_token k) stack = encrypted k stack

-- The machine: what tokens do to the stack, one after another.
abbrev run : List Token → List Message → List Message
run [] stack = stack
run (t ∷ ts) stack = run ts (step t stack)

-- The message on the top of the stack.
abbrev top : List Message → Message
top [] = tag []
top (t ∷ stack) = t

-- The machine puts the message that tokens stand for on the stack.
run_tokens : (t : Message) (rest : List Token) (stack : List Message) → run (tokens t ++ rest) stack ≡ run rest (t ∷ stack)
run_tokens (tag bytes) rest stack = refl
run_tokens (atom a) rest stack = refl
run_tokens (pair a b) rest stack =
    ap (λ ts. run ts stack) (append_assoc (tokens a) (tokens b ++ (pair_token ∷ [])) rest)
    ∙ run_tokens a ((tokens b ++ (pair_token ∷ [])) ++ rest) stack
    ∙ ap (λ ts. run ts (a ∷ stack)) (append_assoc (tokens b) (pair_token ∷ []) rest)
    ∙ run_tokens b (pair_token ∷ rest) (a ∷ stack)
run_tokens (enc a k) rest stack =
    ap (λ ts. run ts stack) (append_assoc (tokens a) (enc_token k ∷ []) rest)
    ∙ run_tokens a (enc_token k ∷ rest) stack

-- The message that tokens stand for.
abbrev message_from : List Token → Message
message_from ts = top (run ts [])

pub message_back : (t : Message) → message_from (tokens t) ≡ t
message_back t = ap (λ ts. top (run ts [])) (sym (append-nil (tokens t))) ∙ ap top (run_tokens t [] [])

-- A message is told apart from others by its tokens.
abbrev pub coded_message : Coded Message
coded_message = code_by (List Token) (coded_list coded_token) tokens message_from message_back
