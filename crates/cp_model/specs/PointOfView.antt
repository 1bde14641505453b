-- Point-of-view skeletons, which are those of problems: they map to themselves.
use Rattle.std.specs.Prelude.{◌≡◌, ◌≢◌, ◌⊎◌, ◌↔◌, List}
use Rattle.cp_lists.specs.Lists.{IsIn}
use Rattle.cp_model.specs.Term.{Variable, AtomTerm, Term, variables_of}
use Rattle.cp_model.specs.Strand.{Declaration}
use Rattle.cp_model.specs.declared.node.Node.{Node}
use Rattle.cp_model.specs.declared.node.OrderPair.{OrderPair}
use Rattle.cp_model.specs.Skeleton.{UniqueAt, Skeleton, Before}
use Rattle.cp_model.specs.Stated.{HasOwnAssumptions}
use Rattle.cp_model.specs.Given.{given_non, given_penetrator_non, given_uniques}
use Rattle.cp_model.specs.Problem.{variables_of_skeleton, numbers_from, variable_terms, IsDeclared}

-- Each variable that occurs in the skeleton, or in a term of its map from the problem, is declared.
pub record HasDeclaredVariables (variables : List Declaration) (k : Skeleton) : Type 0 where
  pub occurring : (x : Variable) → IsIn x (variables_of_skeleton k) → IsDeclared variables x
  pub mapped : (t : Term) (x : Variable) → IsIn t k.from_problem.values → IsIn x (variables_of t) → IsDeclared variables x

-- Each assumption of the skeleton is one that its problem states itself, or one that a strand's role gives.
pub record AssumesNoMore (k : Skeleton) : Type 0 where
  pub non : (v : AtomTerm) → IsIn v k.assumptions.non_originating → IsIn v k.from_problem.assumptions.non_originating ⊎ IsIn v (given_non k.strands)
  pub penetrator_non : (v : AtomTerm) → IsIn v k.assumptions.penetrator_non_originating → IsIn v k.from_problem.assumptions.penetrator_non_originating ⊎ IsIn v (given_penetrator_non k.strands)
  pub unique : (u : UniqueAt) → IsIn u k.assumptions.uniquely_originating → IsIn u k.from_problem.assumptions.uniquely_originating ⊎ IsIn u (given_uniques 0 k.strands)

-- The skeleton has the order that its problem states: the pairs that the problem states itself, as the skeleton has them,
-- lie between different strands, and with these in place of its pairs its order is the same.
pub record HasOwnOrder (k : Skeleton) : Type 0 where
  pub between : (p : OrderPair) → IsIn p k.from_problem.pairs → p.earlier.strand ≢ p.later.strand
  pub order : (x y : Node) → Before (record k { pairs = k.from_problem.pairs }) x y ↔ Before k x y

-- The skeleton maps each of its strands and each of these variables to itself, and all variables that occur in it are
-- among them.
pub record MapsToItself (variables : List Declaration) (k : Skeleton) : Type 0 where
  pub strands : k.from_problem.strands ≡ numbers_from 0 k.strands
  pub values : k.from_problem.values ≡ variable_terms 0 variables
  pub closed : (x : Variable) → IsIn x (variables_of_skeleton k) → IsDeclared variables x

-- The skeleton is its own problem: it maps to itself, the assumptions that the problem states itself are among its
-- assumptions, and the pairs that the problem states generate its order.
pub record StatesItself (variables : List Declaration) (k : Skeleton) : Type 0 where
  pub maps : MapsToItself variables k
  pub assumed : HasOwnAssumptions k
  pub ordered : HasOwnOrder k

-- A point-of-view skeleton (CPSA Primer, "Input"): the skeleton of a problem with these variables. It maps each of its
-- strands and each of its variables to itself; all variables that occur in it are among them; it assumes what the problem
-- states itself and what its strands' roles give, and no more; and the pairs that the problem states generate its order.
pub record IsPointOfView (variables : List Declaration) (k : Skeleton) : Type 0 where
  pub strands : k.from_problem.strands ≡ numbers_from 0 k.strands
  pub values : k.from_problem.values ≡ variable_terms 0 variables
  pub closed : (x : Variable) → IsIn x (variables_of_skeleton k) → IsDeclared variables x
  pub assumed : HasOwnAssumptions k
  pub no_more : AssumesNoMore k
  pub ordered : HasOwnOrder k
