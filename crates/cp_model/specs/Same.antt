-- Tests on terms: equality, what a term carries, where it originates in a trace, and which variables are in a list.
use Rattle.std.specs.Prelude.{◌==◌, ◌&&◌, ◌||◌, ℕ, suc, List, [], ◌∷◌, Bool, true, false, not, if◌then◌else◌, Option, Some, None}
use Rattle.cp_model.specs.Term.{Sort, text_sort, datum_sort, name_sort, skey_sort, akey_sort, Variable, SymmetricTerm, skey_variable, ltk_term, PairTerm, akey_variable, pubk_term, KeyTerm, symmetric_term, asymmetric_term, AtomTerm, text_variable, datum_variable, name_variable, key_term, Term, tag_term, atom_term, pair_term, enc_term}
use Rattle.cp_model.specs.Strand.{Event, send, recv}
use Rattle.cp_model.specs.declared.node.Node.{Node}

-- The texts are equal.
abbrev pub same_text : List ℕ → List ℕ → Bool
same_text [] [] = true
same_text [] (y ∷ ys) = false
same_text (x ∷ xs) [] = false
same_text (x ∷ xs) (y ∷ ys) = (x == y) && same_text xs ys

-- The two flags are equal.
abbrev pub same_bool : Bool → Bool → Bool
same_bool true b = b
same_bool false b = not b

-- The two sorts are equal.
abbrev pub same_sort : Sort → Sort → Bool
same_sort text_sort text_sort = true
same_sort datum_sort datum_sort = true
same_sort name_sort name_sort = true
same_sort skey_sort skey_sort = true
same_sort akey_sort akey_sort = true
same_sort _ _ = false

-- The two keys have no purpose, or the same one.
abbrev pub same_purpose : Option (List ℕ) → Option (List ℕ) → Bool
same_purpose None None = true
same_purpose None (Some t) = false
same_purpose (Some t) None = false
same_purpose (Some s) (Some t) = same_text s t

-- The two symmetric keys are equal.
abbrev pub same_symmetric : SymmetricTerm → SymmetricTerm → Bool
same_symmetric (skey_variable m) (skey_variable n) = m == n
same_symmetric (skey_variable m) (ltk_term c d) = false
same_symmetric (ltk_term a b) (skey_variable n) = false
same_symmetric (ltk_term a b) (ltk_term c d) = (a == c) && (b == d)

-- The two key pairs are equal.
abbrev pub same_pair : PairTerm → PairTerm → Bool
same_pair (akey_variable m) (akey_variable n) = m == n
same_pair (akey_variable m) (pubk_term p a) = false
same_pair (pubk_term p a) (akey_variable n) = false
same_pair (pubk_term p a) (pubk_term q b) = same_purpose p q && (a == b)

-- The two keys are equal.
abbrev pub same_key : KeyTerm → KeyTerm → Bool
same_key (symmetric_term j) (symmetric_term k) = same_symmetric j k
same_key (symmetric_term j) (asymmetric_term f k) = false
same_key (asymmetric_term f j) (symmetric_term k) = false
same_key (asymmetric_term e j) (asymmetric_term f k) = same_bool e f && same_pair j k

-- The two values are equal.
abbrev pub same_atom : AtomTerm → AtomTerm → Bool
same_atom (text_variable m) (text_variable n) = m == n
same_atom (datum_variable m) (datum_variable n) = m == n
same_atom (name_variable m) (name_variable n) = m == n
same_atom (key_term j) (key_term k) = same_key j k
same_atom _ _ = false

-- The terms are equal.
abbrev pub same_term : Term → Term → Bool
same_term (tag_term s) (tag_term t) = same_text s t
same_term (atom_term a) (atom_term b) = same_atom a b
same_term (pair_term a b) (pair_term c d) = same_term a c && same_term b d
same_term (enc_term a j) (enc_term b k) = same_term a b && same_key j k
same_term _ _ = false

-- The two nodes are equal.
abbrev pub same_node : Node → Node → Bool
same_node m n = (m.strand == n.strand) && (m.index == n.index)

-- The whole carries the part.
abbrev pub carries : Term → Term → Bool
carries (tag_term t) v = same_term (tag_term t) v
carries (atom_term a) v = same_term (atom_term a) v
carries (pair_term a b) v = same_term (pair_term a b) v || (carries a v || carries b v)
carries (enc_term a k) v = same_term (enc_term a k) v || carries a v

-- The next place, if there is a place.
abbrev pub one_later : Option ℕ → Option ℕ
one_later None = None
one_later (Some n) = Some (suc n)

-- The place in a trace at which a term originates: that of the first event that carries it, if it is a transmission.
abbrev pub origin_in : List (Event Term) → Term → Option ℕ
origin_in [] v = None
origin_in (send m ∷ es) v = if carries m v then Some 0 else one_later (origin_in es v)
origin_in (recv m ∷ es) v = if carries m v then None else one_later (origin_in es v)

-- The variable is one of these.
abbrev pub has_variable : List Variable → Variable → Bool
has_variable [] y = false
has_variable (x ∷ xs) y = (same_sort x.sort y.sort && (x.number == y.number)) || has_variable xs y

-- All of the variables on the right are among those on the left.
abbrev pub has_variables : List Variable → List Variable → Bool
has_variables xs [] = true
has_variables xs (y ∷ ys) = has_variable xs y && has_variables xs ys
