-- Bindings of variables to terms, and the substitutions that they are.
use Rattle.std.specs.Prelude.{ℕ, suc, List, [], ◌∷◌, ◌==◌, if◌then◌else◌, map}
use Rattle.cp_model.specs.Term.{Sort, text_sort, datum_sort, name_sort, skey_sort, akey_sort, Variable, symmetric_term, asymmetric_term, AtomTerm, text_variable, datum_variable, name_variable, key_term, Term, tag_term, atom_term, pair_term, enc_term, variable_term, Substitution, apply_to}
use Rattle.cp_model.specs.Identity.{unchanged}

-- A variable, and the term that it is bound to.
pub record Binding : Type 0 where
  pub variable : Variable
  pub term : Term

-- The function that gives v at x, and elsewhere what f gives.
abbrev pub put : {V : Type 0} → ℕ → V → (ℕ → V) → (ℕ → V)
put x v f = λ n. if n == x then v else f n

-- The substitution that gives the variable of this sort and number the term, and the others what s gives. It is s if the
-- term is of another sort.
abbrev pub put_of_sort : Sort → ℕ → Term → Substitution → Substitution
put_of_sort text_sort x (atom_term (text_variable n)) s = record s { texts = put x n s.texts }
put_of_sort datum_sort x (atom_term (datum_variable n)) s = record s { datums = put x n s.datums }
put_of_sort name_sort x (atom_term (name_variable n)) s = record s { names = put x n s.names }
put_of_sort skey_sort x (atom_term (key_term (symmetric_term k))) s = record s { skeys = put x k s.skeys }
put_of_sort akey_sort x (atom_term (key_term (asymmetric_term flag k))) s = record s { akeys = put x (flag, k) s.akeys }
put_of_sort _ x _ s = s

-- The substitution that gives the variable the term, if that has its sort, and the others what s gives.
abbrev pub put_term : Variable → Term → Substitution → Substitution
put_term x t s = put_of_sort x.sort x.number t s

-- The substitution that gives each bound variable its term, the first of its sort where it has several, and leaves the others.
abbrev pub as_substitution : List Binding → Substitution
as_substitution [] = unchanged
as_substitution (b ∷ bs) = put_term b.variable b.term (as_substitution bs)

-- Each of the variables, bound to what the substitution gives it.
abbrev pub bindings_by : Substitution → List Variable → List Binding
bindings_by s = map (λ x. record { variable = x; term = apply_to s (variable_term x) })

-- The sort of a term of an atom sort.
abbrev pub sort_of_atom : AtomTerm → Sort
sort_of_atom (text_variable n) = text_sort
sort_of_atom (datum_variable n) = datum_sort
sort_of_atom (name_variable n) = name_sort
sort_of_atom (key_term (symmetric_term k)) = skey_sort
sort_of_atom (key_term (asymmetric_term flag k)) = akey_sort

-- The sort of the variable that is bound to a term. A term of no atom sort is listed with the sort text, and binds nothing.
abbrev pub bound_sort : Term → Sort
bound_sort (atom_term a) = sort_of_atom a
bound_sort (tag_term bytes) = text_sort
bound_sort (pair_term a b) = text_sort
bound_sort (enc_term a k) = text_sort

-- Terms as bindings of the variables of their sorts by their places, the first of which has number n.
abbrev pub bindings_from : ℕ → List Term → List Binding
bindings_from n [] = []
bindings_from n (t ∷ ts) = record { variable = record { sort = bound_sort t; number = n }; term = t } ∷ bindings_from (suc n) ts

abbrev pub bindings_of : List Term → List Binding
bindings_of = bindings_from 0
