-- The bindings of variables that make a pattern a term, beside some that there are already. A test says which variables are
-- local, and may become other terms.
use Rattle.std.specs.Prelude.{◌≡◌, ℕ, Bool, true, List, [], ◌∷◌, Option, Some, None, ◌&&◌, nat_eq, if◌then◌else◌, option_and_then}
use Rattle.std.specs.Cmp.Lexicographic.{pointwise}
use Rattle.std.specs.Option.{option_eq}
use Rattle.cp_model.specs.Term.{SymmetricTerm, skey_variable, ltk_term, PairTerm, akey_variable, pubk_term, KeyTerm, symmetric_term, asymmetric_term, AtomTerm, text_variable, datum_variable, name_variable, key_term, Term, tag_term, atom_term, pair_term, enc_term, variable_term, flag_of}
use Rattle.cp_model.specs.declared.sort.Sort.TheVariants.{Text as text_sort, Datum as datum_sort, Name as name_sort, Skey as skey_sort, Akey as akey_sort}
use Rattle.cp_model.specs.declared.variable.Variable.{Variable}
use Rattle.cp_model.specs.Same.{same_bool, same_term, has_variable}
use Rattle.cp_term.specs.Sorts.{is_of_sort}
use Rattle.cp_unify.specs.Bindings.{Binding}

-- The test whether a variable is listed; where there is no list, each is.
abbrev pub is_listed : Option (List Variable) → Variable → Bool
is_listed None x = true
is_listed (Some xs) x = has_variable xs x

-- The term of the first binding of a variable, which is given as a term.
abbrev pub bound_term : List Binding → Term → Option Term
bound_term [] v = None
bound_term (b ∷ bs) v = if same_term v (variable_term b.variable) then Some b.term else bound_term bs v

-- A local x and the term v, where the local is bound already or not.
abbrev pub matched_local : Variable → Term → List Binding → Option Term → Option (List Binding)
matched_local x v r None = Some (record { variable = x; term = v } ∷ r)
matched_local x v r (Some t) = if same_term t v then Some r else None

-- A variable and the term v: a local may stand for any term of its sort, another variable for itself.
abbrev pub matched_variable : (Variable → Bool) → Variable → Term → List Binding → Option (List Binding)
matched_variable is_local x v r =
    if is_of_sort x.sort v
    then (if is_local x then matched_local x v r (bound_term r (variable_term x)) else (if same_term (variable_term x) v then Some r else None))
    else None

-- A name and a name.
abbrev pub matched_names : (Variable → Bool) → ℕ → ℕ → List Binding → Option (List Binding)
matched_names is_local a b r = matched_variable is_local (record { sort = name_sort; number = a }) (atom_term (name_variable b)) r

-- A symmetric key and another.
abbrev pub matched_symmetric : (Variable → Bool) → SymmetricTerm → SymmetricTerm → List Binding → Option (List Binding)
matched_symmetric is_local (skey_variable m) j r = matched_variable is_local (record { sort = skey_sort; number = m }) (atom_term (key_term (symmetric_term j))) r
matched_symmetric is_local (ltk_term a b) (skey_variable n) r = None
matched_symmetric is_local (ltk_term a b) (ltk_term c d) r = option_and_then (matched_names is_local b d) (matched_names is_local a c r)

-- An asymmetric key and another; the flags say which are inverses.
abbrev pub matched_pairs : (Variable → Bool) → Bool → PairTerm → Bool → PairTerm → List Binding → Option (List Binding)
matched_pairs is_local f (akey_variable m) g j r =
    matched_variable is_local (record { sort = akey_sort; number = m }) (atom_term (key_term (asymmetric_term (flag_of f g) j))) r
matched_pairs is_local f (pubk_term p a) g (akey_variable n) r = None
matched_pairs is_local f (pubk_term p a) g (pubk_term q b) r =
    if same_bool f g && option_eq (pointwise nat_eq) p q then matched_names is_local a b r else None

-- A key and a key.
abbrev pub matched_keys : (Variable → Bool) → KeyTerm → KeyTerm → List Binding → Option (List Binding)
matched_keys is_local (symmetric_term k) (symmetric_term j) r = matched_symmetric is_local k j r
matched_keys is_local (asymmetric_term f k) (asymmetric_term g j) r = matched_pairs is_local f k g j r
matched_keys is_local (symmetric_term k) (asymmetric_term g j) r = None
matched_keys is_local (asymmetric_term f k) (symmetric_term j) r = None

-- Two terms of atom sorts.
abbrev pub matched_atoms : (Variable → Bool) → AtomTerm → AtomTerm → List Binding → Option (List Binding)
matched_atoms is_local (text_variable m) v r = matched_variable is_local (record { sort = text_sort; number = m }) (atom_term v) r
matched_atoms is_local (datum_variable m) v r = matched_variable is_local (record { sort = datum_sort; number = m }) (atom_term v) r
matched_atoms is_local (name_variable m) v r = matched_variable is_local (record { sort = name_sort; number = m }) (atom_term v) r
matched_atoms is_local (key_term k) (key_term j) r = matched_keys is_local k j r
matched_atoms is_local (key_term k) v r = None

-- A pattern and a term. The key of an encryption comes before its plaintext.
abbrev pub matched : (Variable → Bool) → Term → Term → List Binding → Option (List Binding)
matched is_local (tag_term x) (tag_term y) r = if pointwise nat_eq x y then Some r else None
matched is_local (atom_term u) (atom_term v) r = matched_atoms is_local u v r
matched is_local (pair_term a b) (pair_term c d) r = option_and_then (matched is_local b d) (matched is_local a c r)
matched is_local (enc_term a k) (enc_term b j) r = option_and_then (matched is_local a b) (matched_keys is_local k j r)
matched is_local _ _ r = None

-- The answer and the bindings r are what is found: these bindings, or none.
abbrev pub IsFound : Bool → List Binding → Option (List Binding) → Type 0
IsFound same r found = (if same then Some r else None) ≡ found
