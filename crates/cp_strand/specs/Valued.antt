-- The terms of an instance as they are made: one list for all declared variables.
use Rattle.std.specs.Prelude.{ℕ, suc, List, [], ◌∷◌, drop, Bool, if◌then◌else◌, Option, Some, None}
use Rattle.cp_lists.specs.Lists.{item_at}
use Rattle.cp_model.specs.Term.{variable_term, Term}
use Rattle.cp_model.specs.declared.variable.Variable.{Variable}
use Rattle.cp_model.specs.declared.variable.Declaration.{Declaration}

-- A term, or else the variable itself.
abbrev pub term_or : Variable → Option Term → Term
term_or x (Some t) = t
term_or x None = variable_term x

-- The terms of the declared variables, the first of which has number n: a wanted one takes the next of the values, and
-- any other keeps its old term.
abbrev pub valued : (Variable → Bool) → List Term → ℕ → List Declaration → List Term → List Term
valued wanted old n [] vs = []
valued wanted old n (d ∷ ds) vs =
    let x : Variable = record { sort = d.sort; number = n } in
    if wanted x then term_or x (item_at vs 0) ∷ valued wanted old (suc n) ds (drop 1 vs) else term_or x (item_at old n) ∷ valued wanted old (suc n) ds vs
