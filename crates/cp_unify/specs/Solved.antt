-- Solved bindings, and one step of solving an equation.
use Rattle.std.specs.Prelude.{◌≡◌, Bool, true, false, List, ◌++◌}
use Rattle.cp_model.specs.Term.{Term, variables_of, Assignment, value_of, after}
use Rattle.cp_unify.specs.Bindings.{Binding, Meets, as_substitution, variables_of_bindings}
use Rattle.cp_unify.specs.Unifiers.{AreVariablesAmong, AreLaterToEarlier, HasNoUnifier}

-- Whatever an assignment gives to the variables that are not bound, the bindings then give an assignment that meets
-- them; and they are of later variables to earlier ones.
pub record IsSolved (r : List Binding) : Type 0 where
  pub met : (g : Assignment) → Meets (after g (as_substitution r)) r
  pub later_to_earlier : AreLaterToEarlier r

-- r solves the equation of a and b beside the bindings s.
pub record SolvesBeside (a b : Term) (s r : List Binding) : Type 0 where
  pub sound : (g : Assignment) → Meets g r → Meets g s × (value_of g a ≡ value_of g b)
  pub general : (g : Assignment) → Meets g s → value_of g a ≡ value_of g b → Meets g r
  pub solved : IsSolved r
  pub no_new : AreVariablesAmong (variables_of_bindings r) (variables_of a ++ (variables_of b ++ variables_of_bindings s))

-- The answer whether the equation of a and b has a solution beside the bindings s, which is then r.
abbrev pub IsSolution : Bool → Term → Term → List Binding → List Binding → Type 0
IsSolution true a b s r = SolvesBeside a b s r
IsSolution false a b s r = HasNoUnifier a b s

-- The bindings r are solved, and solve those of s but for the rest.
pub record AreSolvedBut (s rest r : List Binding) : Type 0 where
  pub solved : IsSolved r
  pub sound : (g : Assignment) → Meets g r → Meets g rest → Meets g s
  pub general : (g : Assignment) → Meets g s → Meets g r × Meets g rest
  pub within : AreVariablesAmong (variables_of_bindings r) (variables_of_bindings s)
  pub rest_within : AreVariablesAmong (variables_of_bindings rest) (variables_of_bindings s)
