-- The variables of a role that occur in its prefixes, and terms for them.
use Rattle.std.specs.Prelude.{◌≡◌, ◌&&◌, ℕ, suc, List, [], ◌∷◌, map, Bool, true, false, not}
use Rattle.std.specs.List.{filter}
use Rattle.cp_model.specs.Term.{Sort, text_sort, datum_sort, name_sort, skey_sort, akey_sort, Variable, symmetric_term, asymmetric_term, text_variable, datum_variable, name_variable, key_term, Term, atom_term, variable_term, Substitution, apply_to}
use Rattle.cp_model.specs.Strand.{Declaration, Role, variables_of_prefix}
use Rattle.cp_model.specs.Same.{has_variable}

-- The declared variables, the first of which has number n.
abbrev pub declared_variables : ℕ → List Declaration → List Variable
declared_variables n [] = []
declared_variables n (d ∷ ds) = record { sort = d.sort; number = n } ∷ declared_variables (suc n) ds

-- The variables that occur in a prefix, in the order in which the role declares them.
abbrev pub prefix_variables : Role → ℕ → List Variable
prefix_variables role height = filter (has_variable (variables_of_prefix role height)) (declared_variables 0 role.variables)

-- The variable occurs in the one list and not in the other.
abbrev pub is_added : List Variable → List Variable → Variable → Bool
is_added before among x = has_variable among x && not (has_variable before x)

-- The variables that occur in a prefix and do not in an earlier one, in the order in which the role declares them.
abbrev pub added_variables : Role → ℕ → ℕ → List Variable
added_variables role before height = filter (is_added (variables_of_prefix role before) (variables_of_prefix role height)) (declared_variables 0 role.variables)

-- The term is of this sort of atoms.
abbrev pub fits : Sort → Term → Bool
fits text_sort (atom_term (text_variable n)) = true
fits datum_sort (atom_term (datum_variable n)) = true
fits name_sort (atom_term (name_variable n)) = true
fits skey_sort (atom_term (key_term (symmetric_term k))) = true
fits akey_sort (atom_term (key_term (asymmetric_term flag k))) = true
fits _ _ = false

-- There is one term for each of the variables, of its sort.
abbrev pub AreTermsFor : List Variable → List Term → Type 0
AreTermsFor [] [] = Unit {0}
AreTermsFor (x ∷ xs) (t ∷ ts) = (fits x.sort t ≡ true) × AreTermsFor xs ts
AreTermsFor [] (t ∷ ts) = ⊥
AreTermsFor (x ∷ xs) [] = ⊥

-- The terms that a substitution gives these variables.
abbrev pub terms_of : Substitution → List Variable → List Term
terms_of s = map (λ x. apply_to s (variable_term x))
