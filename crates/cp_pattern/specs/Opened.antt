-- Patterns with new variables for their locals.
use Rattle.std.specs.Prelude.{◌≡◌, ℕ, suc, List, [], ◌∷◌, ◌++◌, map, take, codes, Option, Some, None}
use Rattle.cp_lists.specs.Lists.{item_at}
use Rattle.cp_model.specs.Term.{Term, variable_term, Substitution, apply_to}
use Rattle.cp_model.specs.declared.variable.Variable.{Variable}
use Rattle.cp_model.specs.declared.variable.Declaration.{Declaration}
use Rattle.cp_model.specs.Tree.{Pattern}
use Rattle.cp_unify.specs.Bindings.{Binding, put_term}

-- The substitution that gives each of these variables a new one of its sort, numbered from n on, and the others what s gives.
abbrev pub with_new : ℕ → List Variable → Substitution → Substitution
with_new n [] s = s
with_new n (x ∷ xs) s = put_term x (variable_term (record { sort = x.sort; number = n })) (with_new (suc n) xs s)

-- The term of a pattern, where its locals are new variables, numbered from n on, and its other variables are as s says.
abbrev pub opened_pattern : Pattern → Substitution → ℕ → Term
opened_pattern p s n = apply_to (with_new n p.locals s) p.term

-- How a new variable is declared that takes the place of x: named as x is, if x is declared.
abbrev pub identifier_or_x : Option Declaration → List ℕ
identifier_or_x None = codes "x"
identifier_or_x (Some d) = d.identifier

abbrev pub declared_after : List Declaration → Variable → Declaration
declared_after ds x = record { identifier = identifier_or_x (item_at ds x.number); sort = x.sort }

-- The declarations of the new variables.
abbrev pub declared_as : List Declaration → List Variable → List Declaration
declared_as ds = map (declared_after ds)

-- The bindings of these variables to new ones of their sorts, numbered from n on.
abbrev pub new_bindings : ℕ → List Variable → List Binding
new_bindings n [] = []
new_bindings n (x ∷ xs) = record { variable = x; term = variable_term (record { sort = x.sort; number = n }) } ∷ new_bindings (suc n) xs

-- The table has grown by the declarations of new variables for some of these, the first of them.
pub record HasDeclared (old : List Declaration) (xs : List Variable) (new : List Declaration) : Type 0 where
  pub count : ℕ
  pub declared : new ≡ old ++ declared_as old (take count xs)
