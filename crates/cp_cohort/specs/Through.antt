-- Standings of a test's skeleton that go through those of its children.
use Rattle.std.specs.Prelude.{◌≡◌, ℕ, List, ◌++◌, map, Some}
use Rattle.cp_lists.specs.Lists.{item_at, IsIn}
use Rattle.cp_model.specs.Term.{after, AgreeOn, apply_to}
use Rattle.cp_model.specs.Bundle.{Bundle}
use Rattle.cp_model.specs.Skeleton.{SkeletonStrand}
use Rattle.cp_model.specs.Standing.{Standing, StandsIn, StandsApart}
use Rattle.cp_model.specs.Homomorphism.{SkeletonMap, IsHomomorphism}
use Rattle.cp_model.specs.Problem.{variables_of_strands}
use Rattle.cp_theory.specs.Normal.{variables_of_terms}
use Rattle.cp_cohort.specs.CoveringChildren.{Child}
use Rattle.cp_cohort.specs.Cohort.{GuardedTest}

-- One of the children stands apart in the bundle by a standing g, and the test's skeleton maps to it by a homomorphism f, so
-- that its standing h is g after f: each strand goes where its image goes, and each variable that occurs in the strands, or in
-- a term of the map from the problem, has the value of its term. The child's map from the problem is the other after f.
pub record GoesThroughChild (q : GuardedTest) (children : List Child) (b : Bundle) (h : Standing) : Type 0 where
  pub child : Child
  pub listed : IsIn child children
  pub standing : Standing
  pub stands : StandsIn child.skeleton b standing
  pub apart : StandsApart child.skeleton standing
  pub along : SkeletonMap
  pub homomorphism : IsHomomorphism q.skeleton child.skeleton along
  pub nodes : (s : ℕ) (strand : SkeletonStrand) → item_at q.skeleton.strands s ≡ Some strand → h.nodes s ≡ standing.nodes (along.strands s)
  pub values : AgreeOn (variables_of_strands q.skeleton.strands ++ variables_of_terms q.skeleton.from_problem.values) h.values (after standing.values along.terms)
  pub problem_strands : map along.strands q.skeleton.from_problem.strands ≡ child.skeleton.from_problem.strands
  pub problem_values : map (apply_to along.terms) q.skeleton.from_problem.values ≡ child.skeleton.from_problem.values
