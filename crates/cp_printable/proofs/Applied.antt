-- The strings of a term under a substitution, and of what the substitution gives the term's variables.
use Rattle.std.proofs.Common.{◌≡◌, ℕ, List, [], ◌∷◌, sym, subst, ⊎_elim}
use Rattle.cp_lists.specs.Lists.{IsIn, here}
use Rattle.cp_lists.proofs.Members.{not_in_none, only_item, in_cases, in_append, in_append_left, in_append_right}
use Rattle.cp_model.specs.Term.{variable_term, skey_variable, ltk_term, akey_variable, pubk_term, KeyTerm, symmetric_term, asymmetric_term, AtomTerm, text_variable, datum_variable, name_variable, key_term, Term, tag_term, atom_term, pair_term, enc_term, variables_of_atom, variables_of_key, variables_of, Substitution, apply_to_key, apply_to_atom, apply_to}
use Rattle.cp_model.specs.declared.sort.Sort.{Sort}
use Rattle.cp_model.specs.declared.sort.Sort.TheVariants.{Text as text_sort, Datum as datum_sort, Name as name_sort, Skey as skey_sort, Akey as akey_sort}
use Rattle.cp_model.specs.declared.variable.Variable.{Variable}
use Rattle.cp_printable.specs.Strings.{strings_of_atom, strings_of_key, strings_of}
use Rattle.cp_printable.specs.Spelled.{IsSpelledTerm, IsSpelledAtom}

-- ---- variables have no strings

of_sort : (k : Sort) (n : ℕ) (s : List ℕ) → IsIn s (strings_of (variable_term (record { sort = k; number = n }))) → ⊥
of_sort text_sort n s i = not_in_none i
of_sort datum_sort n s i = not_in_none i
of_sort name_sort n s i = not_in_none i
of_sort skey_sort n s i = not_in_none i
of_sort akey_sort n s i = not_in_none i

pub variable_has_none : (x : Variable) (s : List ℕ) → IsIn s (strings_of (variable_term x)) → ⊥
variable_has_none x s i = of_sort x.sort x.number s i

-- ---- an atom whose variables are given admitted strings

module _ (S : List ℕ → Type 0) (f : Substitution) where
  -- What is given to the variable has admitted strings.
  abbrev pub GivesAdmitted : Variable → Type 0
  GivesAdmitted x = IsSpelledTerm S (apply_to f (variable_term x))

  of_key : (k : KeyTerm) → IsSpelledAtom S (key_term k) → ((x : Variable) → IsIn x (variables_of_key k) → GivesAdmitted x) → IsSpelledAtom S (key_term (apply_to_key f k))
  of_key (symmetric_term k) is each s i = absurd (not_in_none i)
  of_key (asymmetric_term flag (akey_variable n)) is each s i = each (record { sort = akey_sort; number = n }) here s i
  of_key (asymmetric_term flag (pubk_term purpose a)) is each s i = is s i

  pub of_atom : (v : AtomTerm) → IsSpelledAtom S v → ((x : Variable) → IsIn x (variables_of_atom v) → GivesAdmitted x) → IsSpelledAtom S (apply_to_atom f v)
  of_atom (text_variable n) is each s i = absurd (not_in_none i)
  of_atom (datum_variable n) is each s i = absurd (not_in_none i)
  of_atom (name_variable n) is each s i = absurd (not_in_none i)
  of_atom (key_term k) is each s i = of_key k is each s i

-- ---- the strings of what is given to a variable are those of the term's under the substitution

module _ (f : Substitution) (x : Variable) (s : List ℕ) (given : IsIn s (strings_of (apply_to f (variable_term x)))) where
  given_at : (z : Variable) → x ≡ z → IsIn s (strings_of (apply_to f (variable_term z)))
  given_at z e = subst (λ (w : Variable). IsIn s (strings_of (apply_to f (variable_term w)))) e given

  only_one : (z : Variable) → IsIn x (z ∷ []) → IsIn s (strings_of (apply_to f (variable_term z)))
  only_one z i = given_at z (only_item i)

  in_key : (k : KeyTerm) → IsIn x (variables_of_key k) → IsIn s (strings_of_key (apply_to_key f k))
  in_key (symmetric_term (skey_variable n)) i = only_one (record { sort = skey_sort; number = n }) i
  in_key (symmetric_term (ltk_term a b)) i =
      ⊎_elim (λ e. given_at (record { sort = name_sort; number = a }) (sym e)) (λ j. only_one (record { sort = name_sort; number = b }) j) (in_cases i)
  in_key (asymmetric_term flag (akey_variable n)) i = only_one (record { sort = akey_sort; number = n }) i
  in_key (asymmetric_term flag (pubk_term purpose a)) i = absurd (not_in_none (only_one (record { sort = name_sort; number = a }) i))

  pub in_atom : (v : AtomTerm) → IsIn x (variables_of_atom v) → IsIn s (strings_of_atom (apply_to_atom f v))
  in_atom (text_variable n) i = only_one (record { sort = text_sort; number = n }) i
  in_atom (datum_variable n) i = only_one (record { sort = datum_sort; number = n }) i
  in_atom (name_variable n) i = only_one (record { sort = name_sort; number = n }) i
  in_atom (key_term k) i = in_key k i

  pub in_term : (t : Term) → IsIn x (variables_of t) → IsIn s (strings_of (apply_to f t))
  in_term (tag_term bytes) i = absurd (not_in_none i)
  in_term (atom_term v) i = in_atom v i
  in_term (pair_term t u) i =
      ⊎_elim (λ j. in_append_left (strings_of (apply_to f u)) (in_term t j)) (λ j. in_append_right (strings_of (apply_to f t)) (in_term u j)) (in_append (variables_of t) (variables_of u) i)
  in_term (enc_term t k) i =
      ⊎_elim (λ j. in_append_left (strings_of_key (apply_to_key f k)) (in_term t j)) (λ j. in_append_right (strings_of (apply_to f t)) (in_key k j)) (in_append (variables_of t) (variables_of_key k) i)
