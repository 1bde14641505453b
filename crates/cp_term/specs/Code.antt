-- A term is told apart from others by the message of the same shape, whose atoms have the numbers of the term's variables.
use Rattle.std.specs.Prelude.{◌≡◌, ℕ, true, false, List, refl}
use Rattle.std.specs.Coded.{Coded, code_by, coded_ℕ, coded_list, coded×}
use Rattle.std.proofs.Common.{ap, ap₂}
use Rattle.cp_model.specs.Message.{SymmetricKey, skey, ltk, KeyPair, akey, pubk, Key, symmetric, asymmetric, Atom, text, datum, name, key, Message, tag, atom, pair, enc}
use Rattle.cp_model.specs.MessageCode.{coded_atom as coded_ground_atom, coded_message}
use Rattle.cp_model.specs.SortNumbers.{sort_number, sort_from, sort_back}
use Rattle.cp_model.specs.Term.{SymmetricTerm, skey_variable, ltk_term, PairTerm, akey_variable, pubk_term, KeyTerm, symmetric_term, asymmetric_term, AtomTerm, text_variable, datum_variable, name_variable, key_term, Term, tag_term, atom_term, pair_term, enc_term, Assignment, value_of_symmetric, value_of_key, value_of_atom, value_of, atoms_by}
use Rattle.cp_model.specs.Bindings.{Binding}
use Rattle.cp_model.specs.declared.sort.Sort.{Sort}
use Rattle.cp_model.specs.declared.variable.Variable.{Variable}
use Rattle.cp_model.specs.Tree.{Pattern}

-- The assignment that gives each variable the atom with its number.
abbrev pub own_numbers : Assignment
own_numbers = atoms_by (λ x. x.number)

-- The terms of the same shape as a symmetric key, a key pair, a key, an atom and a message.
abbrev symmetric_from : SymmetricKey → SymmetricTerm
symmetric_from (skey n) = skey_variable n
symmetric_from (ltk a b) = ltk_term a b

abbrev pair_from : KeyPair → PairTerm
pair_from (akey n) = akey_variable n
pair_from (pubk purpose a) = pubk_term purpose a

abbrev key_from : Key → KeyTerm
key_from (symmetric k) = symmetric_term (symmetric_from k)
key_from (asymmetric flag k) = asymmetric_term flag (pair_from k)

abbrev pub atom_from : Atom → AtomTerm
atom_from (text n) = text_variable n
atom_from (datum n) = datum_variable n
atom_from (name n) = name_variable n
atom_from (key k) = key_term (key_from k)

abbrev pub term_from : Message → Term
term_from (tag bytes) = tag_term bytes
term_from (atom a) = atom_term (atom_from a)
term_from (pair a b) = pair_term (term_from a) (term_from b)
term_from (enc a k) = enc_term (term_from a) (key_from k)

symmetric_back : (k : SymmetricTerm) → symmetric_from (value_of_symmetric own_numbers k) ≡ k
symmetric_back (skey_variable n) = refl
symmetric_back (ltk_term a b) = refl

key_back : (k : KeyTerm) → key_from (value_of_key own_numbers k) ≡ k
key_back (symmetric_term k) = ap symmetric_term (symmetric_back k)
key_back (asymmetric_term true (akey_variable n)) = refl
key_back (asymmetric_term false (akey_variable n)) = refl
key_back (asymmetric_term flag (pubk_term purpose a)) = refl

pub atom_term_back : (a : AtomTerm) → atom_from (value_of_atom own_numbers a) ≡ a
atom_term_back (text_variable n) = refl
atom_term_back (datum_variable n) = refl
atom_term_back (name_variable n) = refl
atom_term_back (key_term k) = ap key_term (key_back k)

pub term_back : (t : Term) → term_from (value_of own_numbers t) ≡ t
term_back (tag_term bytes) = refl
term_back (atom_term a) = ap atom_term (atom_term_back a)
term_back (pair_term a b) = ap₂ pair_term (term_back a) (term_back b)
term_back (enc_term a k) = ap₂ enc_term (term_back a) (key_back k)

abbrev pub coded_atom_term : Coded AtomTerm
coded_atom_term = code_by Atom coded_ground_atom (value_of_atom own_numbers) atom_from atom_term_back

abbrev pub coded_term : Coded Term
coded_term = code_by Message coded_message (value_of own_numbers) term_from term_back

abbrev pub coded_sort : Coded Sort
coded_sort = code_by ℕ coded_ℕ sort_number sort_from sort_back

abbrev coded_variable : Coded Variable
coded_variable = code_by (Sort × ℕ) (coded× coded_sort coded_ℕ) (λ x. (x.sort, x.number)) (λ p. record { sort = p.0; number = p.1 }) (λ x. refl)

-- A pattern is told apart from others by its term and its locals.
abbrev pub coded_pattern : Coded Pattern
coded_pattern =
    code_by (Term × List Variable) (coded× coded_term (coded_list coded_variable)) (λ p. (p.term, p.locals)) (λ p. record { term = p.0; locals = p.1 }) (λ p. refl)

-- A binding is told apart from others by the sort and the number of its variable, and by its term.
abbrev pub coded_binding : Coded Binding
coded_binding =
    code_by ((Sort × ℕ) × Term) (coded× (coded× coded_sort coded_ℕ) coded_term) (λ b. ((b.variable.sort, b.variable.number), b.term))
    (λ p. record { variable = record { sort = p.0.0; number = p.0.1 }; term = p.1 }) (λ b. refl)
