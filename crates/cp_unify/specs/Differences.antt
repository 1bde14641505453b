-- The first difference of two terms: where it is none, or cannot be mended, or by which binding it is.
use Rattle.std.specs.Prelude.{ℕ, Bool, true, false, ◌==◌, ◌&&◌, nat_eq, nat_lt, if◌then◌else◌}
use Rattle.std.specs.Cmp.Lexicographic.{pointwise}
use Rattle.std.specs.Option.{option_eq}
use Rattle.cp_model.specs.Term.{SymmetricTerm, skey_variable, ltk_term, PairTerm, akey_variable, pubk_term, KeyTerm, symmetric_term, asymmetric_term, AtomTerm, text_variable, datum_variable, name_variable, key_term, Term, tag_term, atom_term, pair_term, enc_term, flag_of}
use Rattle.cp_model.specs.declared.sort.Sort.{Sort}
use Rattle.cp_model.specs.declared.sort.Sort.TheVariants.{Text as text_sort, Datum as datum_sort, Name as name_sort, Skey as skey_sort, Akey as akey_sort}
use Rattle.cp_model.specs.Same.{same_bool}
use Rattle.cp_unify.specs.declared.difference.Difference.{Difference}
use Rattle.cp_unify.specs.declared.difference.Difference.TheVariants.{Same, Clash, Bind}

-- A first difference, or where it is none a second.
abbrev pub first_difference : Difference → Difference → Difference
first_difference Same d = d
first_difference Clash d = Clash
first_difference (Bind b) d = Bind b

-- The variable of this sort and number is bound to the term.
abbrev pub binds : Sort → ℕ → Term → Difference
binds s x t = Bind (record { variable = record { sort = s; number = x }; term = t })

-- Of two variables of this sort the later is bound, x to v or y to u.
abbrev pub between : Sort → ℕ → Term → ℕ → Term → Difference
between s x u y v = if x == y then Same else (if nat_lt x y then binds s y u else binds s x v)

-- Two variables of sort name.
abbrev pub between_names : ℕ → ℕ → Difference
between_names a b = between name_sort a (atom_term (name_variable a)) b (atom_term (name_variable b))

-- A variable of sort akey, or its inverse.
abbrev pub akey_atom : Bool → ℕ → AtomTerm
akey_atom flag n = key_term (asymmetric_term flag (akey_variable n))

-- Two variables of sort akey that stand for the same key, or for inverses of each other.
abbrev pub between_akeys : ℕ → ℕ → Difference
between_akeys m n = between akey_sort m (atom_term (akey_atom false m)) n (atom_term (akey_atom false n))

abbrev pub between_opposites : ℕ → ℕ → Difference
between_opposites m n = if m == n then Clash else between akey_sort m (atom_term (akey_atom true m)) n (atom_term (akey_atom true n))

-- A symmetric key, as a term.
abbrev pub symmetric_as_term : SymmetricTerm → Term
symmetric_as_term k = atom_term (key_term (symmetric_term k))

-- Two symmetric keys.
abbrev pub difference_of_symmetric : SymmetricTerm → SymmetricTerm → Difference
difference_of_symmetric (skey_variable m) (skey_variable n) = between skey_sort m (symmetric_as_term (skey_variable m)) n (symmetric_as_term (skey_variable n))
difference_of_symmetric (skey_variable m) (ltk_term a b) = binds skey_sort m (symmetric_as_term (ltk_term a b))
difference_of_symmetric (ltk_term a b) (skey_variable n) = binds skey_sort n (symmetric_as_term (ltk_term a b))
difference_of_symmetric (ltk_term a b) (ltk_term c d) = first_difference (between_names a c) (between_names b d)

-- Two asymmetric keys; the flags say which are inverses.
abbrev pub difference_of_pairs : Bool → PairTerm → Bool → PairTerm → Difference
difference_of_pairs f (akey_variable m) g (akey_variable n) =
    if same_bool f g then between_akeys m n else between_opposites m n
difference_of_pairs f (akey_variable m) g (pubk_term p a) = binds akey_sort m (atom_term (key_term (asymmetric_term (flag_of f g) (pubk_term p a))))
difference_of_pairs f (pubk_term p a) g (akey_variable n) = binds akey_sort n (atom_term (key_term (asymmetric_term (flag_of g f) (pubk_term p a))))
difference_of_pairs f (pubk_term p a) g (pubk_term q b) =
    if same_bool f g && option_eq (pointwise nat_eq) p q then between_names a b else Clash

-- Two keys.
abbrev pub difference_of_keys : KeyTerm → KeyTerm → Difference
difference_of_keys (symmetric_term k) (symmetric_term j) = difference_of_symmetric k j
difference_of_keys (asymmetric_term f k) (asymmetric_term g j) = difference_of_pairs f k g j
difference_of_keys (symmetric_term k) (asymmetric_term g j) = Clash
difference_of_keys (asymmetric_term f k) (symmetric_term j) = Clash

-- Two terms of atom sorts.
abbrev pub difference_of_atoms : AtomTerm → AtomTerm → Difference
difference_of_atoms (text_variable m) (text_variable n) = between text_sort m (atom_term (text_variable m)) n (atom_term (text_variable n))
difference_of_atoms (datum_variable m) (datum_variable n) = between datum_sort m (atom_term (datum_variable m)) n (atom_term (datum_variable n))
difference_of_atoms (name_variable m) (name_variable n) = between_names m n
difference_of_atoms (key_term k) (key_term j) = difference_of_keys k j
difference_of_atoms _ _ = Clash

-- Two terms. The key of an encryption comes before its plaintext.
abbrev pub difference_of : Term → Term → Difference
difference_of (tag_term x) (tag_term y) = if pointwise nat_eq x y then Same else Clash
difference_of (atom_term u) (atom_term v) = difference_of_atoms u v
difference_of (pair_term a b) (pair_term c d) = first_difference (difference_of a c) (difference_of b d)
difference_of (enc_term a k) (enc_term b j) = first_difference (difference_of_keys k j) (difference_of a b)
difference_of _ _ = Clash
