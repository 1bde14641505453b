-- Terms: messages with variables (CPSA Specification, "Message Algebra").
--
-- A variable is a sort and a number. The shape is that of messages, and a term is well sorted by construction:
-- where a message has the number of an atom, a term has the number of a variable of that sort.
use Rattle.std.specs.Prelude.{◌≡◌, ℕ, List, [], ◌∷◌, ◌++◌, Option, Bool, true, false, not}
use Rattle.cp_lists.specs.Lists.{IsIn}
use Rattle.cp_model.specs.Message.{SymmetricKey, skey, ltk, KeyPair, akey, pubk, Key, symmetric, asymmetric, Atom, text, datum, name, key, Message, tag, atom, pair, enc}
-- The sorts of atoms, and variables: a sort and a number.
pub use Rattle.cp_model.specs.declared.sort.Sort.{Sort}
pub use Rattle.cp_model.specs.declared.sort.Sort.TheVariants.{Text as text_sort, Datum as datum_sort, Name as name_sort, Skey as skey_sort, Akey as akey_sort}
pub use Rattle.cp_model.specs.declared.variable.Variable.{Variable}

-- A term for a symmetric key: a variable of sort skey, or the long-term key of two variables of sort name.
pub data SymmetricTerm : Type 0 where
  skey_variable : ℕ → SymmetricTerm
  ltk_term : ℕ → ℕ → SymmetricTerm

-- A term for a key pair: a variable of sort akey, or the keys of a variable of sort name, for a purpose or none.
pub data PairTerm : Type 0 where
  akey_variable : ℕ → PairTerm
  pubk_term : Option (List ℕ) → ℕ → PairTerm

-- A term for a key; the flag says whether it is the inverse of what the rest stands for.
pub data KeyTerm : Type 0 where
  symmetric_term : SymmetricTerm → KeyTerm
  asymmetric_term : Bool → PairTerm → KeyTerm

-- A term of one of the five atom sorts.
pub data AtomTerm : Type 0 where
  text_variable : ℕ → AtomTerm
  datum_variable : ℕ → AtomTerm
  name_variable : ℕ → AtomTerm
  key_term : KeyTerm → AtomTerm

pub data Term : Type 0 where
  tag_term : List ℕ → Term
  atom_term : AtomTerm → Term
  pair_term : Term → Term → Term
  enc_term : Term → KeyTerm → Term

-- A key as a term.
abbrev pub key_as_term : KeyTerm → Term
key_as_term k = atom_term (key_term k)

abbrev pub inverse_term : KeyTerm → KeyTerm
inverse_term (symmetric_term k) = symmetric_term k
inverse_term (asymmetric_term flag k) = asymmetric_term (not flag) k

-- A variable as a term of its sort.
abbrev pub atom_of_variable : Variable → AtomTerm
atom_of_variable x = elim x.sort [
  | text_sort ↦ text_variable x.number
  | datum_sort ↦ datum_variable x.number
  | name_sort ↦ name_variable x.number
  | skey_sort ↦ key_term (symmetric_term (skey_variable x.number))
  | akey_sort ↦ key_term (asymmetric_term false (akey_variable x.number))
]

-- A variable as a term.
abbrev pub variable_term : Variable → Term
variable_term x = atom_term (atom_of_variable x)

-- The variables of a term, from left to right.
abbrev pub variables_of_symmetric : SymmetricTerm → List Variable
variables_of_symmetric (skey_variable n) = record { sort = skey_sort; number = n } ∷ []
variables_of_symmetric (ltk_term a b) = record { sort = name_sort; number = a } ∷ record { sort = name_sort; number = b } ∷ []

abbrev pub variables_of_pair : PairTerm → List Variable
variables_of_pair (akey_variable n) = record { sort = akey_sort; number = n } ∷ []
variables_of_pair (pubk_term purpose a) = record { sort = name_sort; number = a } ∷ []

abbrev pub variables_of_key : KeyTerm → List Variable
variables_of_key (symmetric_term k) = variables_of_symmetric k
variables_of_key (asymmetric_term flag k) = variables_of_pair k

abbrev pub variables_of_atom : AtomTerm → List Variable
variables_of_atom (text_variable n) = record { sort = text_sort; number = n } ∷ []
variables_of_atom (datum_variable n) = record { sort = datum_sort; number = n } ∷ []
variables_of_atom (name_variable n) = record { sort = name_sort; number = n } ∷ []
variables_of_atom (key_term k) = variables_of_key k

abbrev pub variables_of : Term → List Variable
variables_of (tag_term bytes) = []
variables_of (atom_term a) = variables_of_atom a
variables_of (pair_term a b) = variables_of a ++ variables_of b
variables_of (enc_term a k) = variables_of a ++ variables_of_key k

-- What a term carries, as for messages.
pub data IsCarriedByTerm (v : Term) : Term → Type 0 where
  itself_term : IsCarriedByTerm v v
  in_left_term : {a b : Term} → IsCarriedByTerm v a → IsCarriedByTerm v (pair_term a b)
  in_right_term : {a b : Term} → IsCarriedByTerm v b → IsCarriedByTerm v (pair_term a b)
  in_plaintext_term : {a : Term} {k : KeyTerm} → IsCarriedByTerm v a → IsCarriedByTerm v (enc_term a k)

-- An assignment gives each variable a message of its sort: of a text, datum or name the number of the atom, of
-- an skey a symmetric key, of an akey one key of a pair.
pub record Assignment : Type 0 where
  pub texts : ℕ → ℕ
  pub datums : ℕ → ℕ
  pub names : ℕ → ℕ
  pub skeys : ℕ → SymmetricKey
  pub akeys : ℕ → Bool × KeyPair

-- the flag of the inverse of an inverse is that of no inverse
abbrev pub flag_of : Bool → Bool → Bool
flag_of true flag = not flag
flag_of false flag = flag

-- The value of a term under an assignment.
abbrev pub value_of_symmetric : Assignment → SymmetricTerm → SymmetricKey
value_of_symmetric g (skey_variable n) = g.skeys n
value_of_symmetric g (ltk_term a b) = ltk (g.names a) (g.names b)

abbrev pub value_of_half : Assignment → Bool → PairTerm → Bool × KeyPair
value_of_half g flag (akey_variable n) = (flag_of flag (g.akeys n).0, (g.akeys n).1)
value_of_half g flag (pubk_term purpose a) = (flag, pubk purpose (g.names a))

abbrev pub value_of_key : Assignment → KeyTerm → Key
value_of_key g (symmetric_term k) = symmetric (value_of_symmetric g k)
value_of_key g (asymmetric_term flag k) = asymmetric (value_of_half g flag k).0 (value_of_half g flag k).1

abbrev pub value_of_atom : Assignment → AtomTerm → Atom
value_of_atom g (text_variable n) = text (g.texts n)
value_of_atom g (datum_variable n) = datum (g.datums n)
value_of_atom g (name_variable n) = name (g.names n)
value_of_atom g (key_term k) = key (value_of_key g k)

abbrev pub value_of : Assignment → Term → Message
value_of g (tag_term bytes) = tag bytes
value_of g (atom_term a) = atom (value_of_atom g a)
value_of g (pair_term a b) = pair (value_of g a) (value_of g b)
value_of g (enc_term a k) = enc (value_of g a) (value_of_key g k)

-- A substitution gives each variable a term of its sort; of a text, datum or name that is another variable.
pub record Substitution : Type 0 where
  pub texts : ℕ → ℕ
  pub datums : ℕ → ℕ
  pub names : ℕ → ℕ
  pub skeys : ℕ → SymmetricTerm
  pub akeys : ℕ → Bool × PairTerm

-- A term under a substitution.
abbrev pub apply_to_symmetric : Substitution → SymmetricTerm → SymmetricTerm
apply_to_symmetric s (skey_variable n) = s.skeys n
apply_to_symmetric s (ltk_term a b) = ltk_term (s.names a) (s.names b)

abbrev pub apply_to_half : Substitution → Bool → PairTerm → Bool × PairTerm
apply_to_half s flag (akey_variable n) = (flag_of flag (s.akeys n).0, (s.akeys n).1)
apply_to_half s flag (pubk_term purpose a) = (flag, pubk_term purpose (s.names a))

abbrev pub apply_to_key : Substitution → KeyTerm → KeyTerm
apply_to_key s (symmetric_term k) = symmetric_term (apply_to_symmetric s k)
apply_to_key s (asymmetric_term flag k) = asymmetric_term (apply_to_half s flag k).0 (apply_to_half s flag k).1

abbrev pub apply_to_atom : Substitution → AtomTerm → AtomTerm
apply_to_atom s (text_variable n) = text_variable (s.texts n)
apply_to_atom s (datum_variable n) = datum_variable (s.datums n)
apply_to_atom s (name_variable n) = name_variable (s.names n)
apply_to_atom s (key_term k) = key_term (apply_to_key s k)

abbrev pub apply_to : Substitution → Term → Term
apply_to s (tag_term bytes) = tag_term bytes
apply_to s (atom_term a) = atom_term (apply_to_atom s a)
apply_to s (pair_term a b) = pair_term (apply_to s a) (apply_to s b)
apply_to s (enc_term a k) = enc_term (apply_to s a) (apply_to_key s k)

-- The assignment under which each variable has the value that g gives to its term under s.
abbrev pub after : Assignment → Substitution → Assignment
after g s = record {
  texts = λ n. g.texts (s.texts n);
  datums = λ n. g.datums (s.datums n);
  names = λ n. g.names (s.names n);
  skeys = λ n. value_of_symmetric g (s.skeys n);
  akeys = λ n. value_of_half g (s.akeys n).0 (s.akeys n).1;
}

-- First s, and then t.
abbrev pub composed : Substitution → Substitution → Substitution
composed s t = record {
  texts = λ n. t.texts (s.texts n);
  datums = λ n. t.datums (s.datums n);
  names = λ n. t.names (s.names n);
  skeys = λ n. apply_to_symmetric t (s.skeys n);
  akeys = λ n. apply_to_half t (s.akeys n).0 (s.akeys n).1;
}

-- Two assignments give each of these variables the same value.
abbrev pub AgreeOn : List Variable → Assignment → Assignment → Type 0
AgreeOn xs g h = (x : Variable) → IsIn x xs → value_of g (variable_term x) ≡ value_of h (variable_term x)

-- Two substitutions give each of these variables the same term.
abbrev pub AgreeOnTerms : List Variable → Substitution → Substitution → Type 0
AgreeOnTerms xs s t = (x : Variable) → IsIn x xs → apply_to s (variable_term x) ≡ apply_to t (variable_term x)

-- The assignment that gives each variable an atom with a number: a text, a datum, a name, an skey, or an akey
-- that is no inverse.
abbrev pub atoms_by : (Variable → ℕ) → Assignment
atoms_by number = record {
  texts = λ n. number (record { sort = text_sort; number = n });
  datums = λ n. number (record { sort = datum_sort; number = n });
  names = λ n. number (record { sort = name_sort; number = n });
  skeys = λ n. skey (number (record { sort = skey_sort; number = n }));
  akeys = λ n. (false, akey (number (record { sort = akey_sort; number = n })));
}

-- Different variables have different numbers, whatever their sorts.
abbrev pub IsDistinct : (Variable → ℕ) → Type 0
IsDistinct number = (x y : Variable) → number x ≡ number y → x ≡ y
