-- New variables.
use Rattle.std.specs.Prelude.{ℕ, suc, ◌<◌, List, [], ◌∷◌}
use Rattle.cp_lists.specs.Lists.{IsIn}
use Rattle.cp_model.specs.Term.{Term, variable_term}
use Rattle.cp_model.specs.declared.variable.Variable.{Variable}

-- For each variable a new one of its sort, numbered from n on.
abbrev pub fresh_terms : ℕ → List Variable → List Term
fresh_terms n [] = []
fresh_terms n (x ∷ xs) = variable_term (record { sort = x.sort; number = n }) ∷ fresh_terms (suc n) xs

-- The variables have numbers below n, so that those numbered from n on are new.
abbrev pub AreBelow : ℕ → List Variable → Type 0
AreBelow n xs = (x : Variable) → IsIn x xs → x.number < n
