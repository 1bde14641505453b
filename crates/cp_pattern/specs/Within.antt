-- Variables among others, and patterns that may guard tests.
use Rattle.std.specs.Prelude.{◌&&◌, ◌||◌, List, [], ◌∷◌, Bool, true, false}
use Rattle.cp_lists.specs.Lists.{IsIn}
use Rattle.cp_model.specs.declared.variable.Variable.{Variable}
use Rattle.cp_model.specs.Same.{has_variable}
use Rattle.cp_model.specs.Tree.{Pattern}
use Rattle.cp_model.specs.Pattern.{IsPattern}
use Rattle.cp_theory.specs.Matches.{IsFreeIn}
use Rattle.cp_theory.specs.Guards.{HoldsNoLocalInItsKey}

-- Each of the variables on the right is a local, or among those on the left.
abbrev pub has_all_but : List Variable → List Variable → List Variable → Bool
has_all_but locals xs [] = true
has_all_but locals xs (y ∷ ys) = (has_variable locals y || has_variable xs y) && has_all_but locals xs ys

-- One of the variables on the right is among those on the left.
abbrev pub has_some : List Variable → List Variable → Bool
has_some xs [] = false
has_some xs (y ∷ ys) = has_variable xs y || has_some xs ys

-- The pattern may guard tests, where these variables are used: it is one, whose own key holds no local, and its other variables
-- are used.
pub record MayGuard (used : List Variable) (p : Pattern) : Type 0 where
  pub pattern : IsPattern p
  pub key : HoldsNoLocalInItsKey p
  pub free_used : (x : Variable) → IsFreeIn x p → IsIn x used
