-- Terms that could equal another.
use Rattle.std.specs.Prelude.{◌&&◌, ◌||◌, Bool, true, false, nat_eq}
use Rattle.std.specs.Cmp.Lexicographic.{pointwise}
use Rattle.cp_model.specs.Term.{KeyTerm, symmetric_term, asymmetric_term, AtomTerm, text_variable, datum_variable, name_variable, key_term, Term, tag_term, atom_term, pair_term, enc_term}

-- Two keys have the same sort.
abbrev pub is_same_key_sort : KeyTerm → KeyTerm → Bool
is_same_key_sort (symmetric_term k) (symmetric_term j) = true
is_same_key_sort (asymmetric_term f k) (asymmetric_term g j) = true
is_same_key_sort _ _ = false

-- Two terms of atom sorts have the same sort.
abbrev pub is_same_sort : AtomTerm → AtomTerm → Bool
is_same_sort (text_variable m) (text_variable n) = true
is_same_sort (datum_variable m) (datum_variable n) = true
is_same_sort (name_variable m) (name_variable n) = true
is_same_sort (key_term k) (key_term j) = is_same_key_sort k j
is_same_sort _ _ = false

-- Some values could make the two terms one, as far as their forms and the sorts of their atoms tell: both are tags, of the same
-- text; or atoms, of the same sort; or pairs whose parts could be made one; or encryptions whose plaintexts could be, under keys
-- of the same sort.
abbrev pub may_equal : Term → Term → Bool
may_equal (tag_term x) (tag_term y) = pointwise nat_eq x y
may_equal (atom_term a) (atom_term b) = is_same_sort a b
may_equal (pair_term a b) (pair_term c d) = may_equal a c && may_equal b d
may_equal (enc_term a j) (enc_term b k) = is_same_key_sort j k && may_equal a b
may_equal _ _ = false

-- The term carries one that passes the test.
abbrev pub carries_where : (Term → Bool) → Term → Bool
carries_where test (tag_term bytes) = test (tag_term bytes)
carries_where test (atom_term a) = test (atom_term a)
carries_where test (pair_term a b) = test (pair_term a b) || (carries_where test a || carries_where test b)
carries_where test (enc_term a k) = test (enc_term a k) || carries_where test a
