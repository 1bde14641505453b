-- Variables that are looked for in a list.
use Rattle.std.proofs.Common.{rules, ◌≡◌, List, [], ◌∷◌, Bool, ◌&&◌, ◌||◌, ◌==◌, refl, ap, ap₂}
use Rattle.std.specs.List.{list_any}
use Rattle.cp_model.specs.declared.sort.Sort.{Sort}
use Rattle.cp_model.specs.declared.variable.Variable.{Variable}
use Rattle.cp_model.specs.contracts.sort.SortPartialEq.TheImpl.{ghosts as sorts}
use Rattle.cp_model.specs.contracts.variable.VariablePartialEq.TheImpl.{ghosts as variables}
use Rattle.cp_model.specs.Same.{same_sort, has_variable}

sorts_alike : (s t : Sort) → sorts.eq s t ≡ same_sort s t
sorts_alike s t = search rules

-- The list has the variable where one of its items equals it.
pub found_in : (xs : List Variable) (x : Variable) → list_any (λ y. variables.eq y x) xs ≡ has_variable xs x
found_in [] x = refl
found_in (y ∷ ys) x = ap₂ (λ (a b : Bool). a || b) (ap (λ (b : Bool). b && (y.number == x.number)) (sorts_alike y.sort x.sort)) (found_in ys x)
