-- Bindings of variables to terms: that they are of a sort, what assignments meet them, and their variables.
use Rattle.std.specs.Prelude.{◌≡◌, ◌⊎◌, ◌≤◌, ℕ, true, List, [], ◌∷◌, ◌++◌}
use Rattle.cp_model.specs.Term.{Term, variable_term, variables_of, Assignment, value_of}
use Rattle.cp_model.specs.declared.variable.Variable.{Variable}
use Rattle.cp_term.specs.Sorts.{is_of_sort}
-- A variable and a term, and the substitution that bindings are.
pub use Rattle.cp_model.specs.Bindings.{Binding, put, put_of_sort, put_term, as_substitution}

-- The term has the sort of the variable.
abbrev pub HasItsSort : Binding → Type 0
HasItsSort b = is_of_sort b.variable.sort b.term ≡ true

-- One of two terms is the variable of the binding, and the other its term.
abbrev pub IsBetween : Binding → Term → Term → Type 0
IsBetween x a b = ((a ≡ variable_term x.variable) × (x.term ≡ b)) ⊎ ((b ≡ variable_term x.variable) × (x.term ≡ a))

-- The assignment gives the variable of the binding the value of its term.
abbrev pub MeetsBinding : Assignment → Binding → Type 0
MeetsBinding g b = value_of g (variable_term b.variable) ≡ value_of g b.term

-- The assignment gives the variable of each binding the value of its term.
abbrev pub Meets : Assignment → List Binding → Type 0
Meets g [] = Unit {0}
Meets g (b ∷ bs) = MeetsBinding g b × Meets g bs

-- The variables of bindings, bound or in the terms.
abbrev pub variables_of_bindings : List Binding → List Variable
variables_of_bindings [] = []
variables_of_bindings (b ∷ bs) = b.variable ∷ (variables_of b.term ++ variables_of_bindings bs)

-- All bound variables have at least this number.
abbrev pub BindNoneBelow : ℕ → List Binding → Type 0
BindNoneBelow n [] = Unit {0}
BindNoneBelow n (b ∷ bs) = (n ≤ b.variable.number) × BindNoneBelow n bs
