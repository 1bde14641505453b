-- The atoms that a message has in the places of a term's variables.
use Rattle.std.proofs.Common.{◌≡◌, ℕ, List, [], ◌∷◌, ◌++◌, map, Option, Some, None, Bool, refl, sym, ap, ap₂, ◌∙◌}
use Rattle.std.specs.Prelude.{◌&&◌, ◌==◌, if◌then◌else◌}
use Rattle.std.proofs.lemmas.List.{map-append}
use Rattle.cp_model.specs.Message.{SymmetricKey, skey, ltk, KeyPair, akey, pubk, Key, symmetric, asymmetric, Atom, name, key, Message, atom, pair, enc}
use Rattle.cp_model.specs.Term.{SymmetricTerm, skey_variable, ltk_term, PairTerm, akey_variable, pubk_term, KeyTerm, symmetric_term, asymmetric_term, AtomTerm, text_variable, datum_variable, name_variable, key_term, Term, tag_term, atom_term, pair_term, enc_term, atom_of_variable, variables_of_symmetric, variables_of_pair, variables_of_key, variables_of_atom, variables_of, Assignment, flag_of, value_of_symmetric, value_of_half, value_of_key, value_of_atom, value_of}
use Rattle.cp_model.specs.declared.sort.Sort.{Sort}
use Rattle.cp_model.specs.declared.sort.Sort.TheVariants.{Text as text_sort, Datum as datum_sort, Name as name_sort, Skey as skey_sort, Akey as akey_sort}
use Rattle.cp_model.specs.declared.variable.Variable.{Variable}
use Rattle.cp_model.specs.Same.{same_sort}
use Rattle.cp_model.proofs.LawTerms.{flag_twice}

-- A variable with the atom that stands in its place.
abbrev pub Reading : Type 0
Reading = Variable × Atom

abbrev variable : Sort → ℕ → Variable
variable s n = record { sort = s; number = n }

-- What a message has in the places of the variables of a term, from left to right.
abbrev read_symmetric : SymmetricTerm → SymmetricKey → List Reading
read_symmetric (skey_variable n) k = (variable skey_sort n, key (symmetric k)) ∷ []
read_symmetric (ltk_term a b) (ltk x y) = (variable name_sort a, name x) ∷ (variable name_sort b, name y) ∷ []
read_symmetric (ltk_term a b) (skey n) = []

abbrev read_half : Bool → PairTerm → Bool → KeyPair → List Reading
read_half flag (akey_variable n) e k = (variable akey_sort n, key (asymmetric (flag_of flag e) k)) ∷ []
read_half flag (pubk_term p a) e (pubk q x) = (variable name_sort a, name x) ∷ []
read_half flag (pubk_term p a) e (akey n) = []

abbrev read_key : KeyTerm → Key → List Reading
read_key (symmetric_term k) (symmetric j) = read_symmetric k j
read_key (asymmetric_term flag k) (asymmetric e j) = read_half flag k e j
read_key _ _ = []

abbrev read_atom : AtomTerm → Atom → List Reading
read_atom (text_variable n) a = (variable text_sort n, a) ∷ []
read_atom (datum_variable n) a = (variable datum_sort n, a) ∷ []
read_atom (name_variable n) a = (variable name_sort n, a) ∷ []
read_atom (key_term k) (key j) = read_key k j
read_atom (key_term k) _ = []

abbrev pub readings : Term → Message → List Reading
readings (atom_term a) (atom b) = read_atom a b
readings (pair_term a b) (pair x y) = readings a x ++ readings b y
readings (enc_term a k) (enc x j) = readings a x ++ read_key k j
readings _ _ = []

-- A variable with its value.
abbrev pub valued : Assignment → Variable → Reading
valued f x = (x, value_of_atom f (atom_of_variable x))

of_symmetric : (f : Assignment) (k : SymmetricTerm) → read_symmetric k (value_of_symmetric f k) ≡ map (valued f) (variables_of_symmetric k)
of_symmetric f (skey_variable n) = refl
of_symmetric f (ltk_term a b) = refl

of_half : (f : Assignment) (flag : Bool) (k : PairTerm) → read_half flag k (value_of_half f flag k).0 (value_of_half f flag k).1 ≡ map (valued f) (variables_of_pair k)
of_half f flag (akey_variable n) = ap (λ (e : Bool). (variable akey_sort n, key (asymmetric e (f.akeys n).1)) ∷ []) (flag_twice flag (f.akeys n).0)
of_half f flag (pubk_term p a) = refl

of_key : (f : Assignment) (k : KeyTerm) → read_key k (value_of_key f k) ≡ map (valued f) (variables_of_key k)
of_key f (symmetric_term k) = of_symmetric f k
of_key f (asymmetric_term flag k) = of_half f flag k

of_atom : (f : Assignment) (a : AtomTerm) → read_atom a (value_of_atom f a) ≡ map (valued f) (variables_of_atom a)
of_atom f (text_variable n) = refl
of_atom f (datum_variable n) = refl
of_atom f (name_variable n) = refl
of_atom f (key_term k) = of_key f k

-- In the value of a term each variable's place has its value.
pub readings_of_value : (f : Assignment) (t : Term) → readings t (value_of f t) ≡ map (valued f) (variables_of t)
readings_of_value f (tag_term bytes) = refl
readings_of_value f (atom_term a) = of_atom f a
readings_of_value f (pair_term a b) = ap₂ ◌++◌ (readings_of_value f a) (readings_of_value f b) ∙ sym (map-append (valued f) (variables_of a) (variables_of b))
readings_of_value f (enc_term a k) = ap₂ ◌++◌ (readings_of_value f a) (of_key f k) ∙ sym (map-append (valued f) (variables_of a) (variables_of_key k))

-- The first atom that is read for a variable.
abbrev pub atom_for : List Reading → Variable → Option Atom
atom_for [] x = None
atom_for (r ∷ rs) x = if same_sort r.0.sort x.sort && (r.0.number == x.number) then Some r.1 else atom_for rs x
