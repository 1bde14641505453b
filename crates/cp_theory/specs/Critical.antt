-- Authentication tests: a reception, and a component of its message that the penetrator cannot derive there.
use Rattle.std.specs.Prelude.{◌≡◌, ◌≢◌, List, Some, ◌++◌}
use Rattle.cp_model.specs.Term.{Term, pair_term}
use Rattle.cp_model.specs.declared.variable.Variable.{Variable}
use Rattle.cp_model.specs.declared.strand.Event.TheVariants.{Receive as recv}
use Rattle.cp_model.specs.declared.node.Node.{Node}
use Rattle.cp_model.specs.Skeleton.{term_event_at, Skeleton}
use Rattle.cp_model.specs.Derivable.{DerivableAt}
use Rattle.cp_model.specs.Problem.{variables_of_skeleton}
use Rattle.cp_theory.specs.Normal.{variables_of_terms}

-- A term is a part of the pair tree of another: it is that one, or a part of the pair tree of one of its two parts.
pub data IsPartOfPairs (c : Term) : Term → Type 0 where
  whole_part : IsPartOfPairs c c
  part_of_left : {a b : Term} → IsPartOfPairs c a → IsPartOfPairs c (pair_term a b)
  part_of_right : {a b : Term} → IsPartOfPairs c b → IsPartOfPairs c (pair_term a b)

-- The components of a term are the parts of its pair tree that are no pairs.
pub record IsComponent (c t : Term) : Type 0 where
  pub part : IsPartOfPairs c t
  pub no_pair : (a b : Term) → c ≢ pair_term a b

-- A test: n is a reception, and c a component of its message that is not derivable at n.
pub record IsTest (k : Skeleton) (n : Node) (c : Term) : Type 0 where
  pub message : Term
  pub reception : term_event_at k.strands n ≡ Some (recv message)
  pub component : IsComponent c message
  pub underivable : DerivableAt k n c → ⊥

-- The variables that occur in a skeleton, or in a term of its map from the problem.
abbrev pub used_variables : Skeleton → List Variable
used_variables k = variables_of_skeleton k ++ variables_of_terms k.from_problem.values
