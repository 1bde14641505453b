use Rattle.std.proofs.Common.{◌≤◌}
use Rattle.cp_term.specs.Size.{term_size}
use Rattle.cp_unify.proofs.SolvedParts.{LeadsTo}
use Rattle.cp_unify.proofs.unification.+solve.Given as goal

abbrev pub decreases-solve : goal.decreases-solve
decreases-solve l = term_size l.a.now

-- what is left to be solved is the equation of the terms that are left
abbrev pub invariant-loop-first : goal.invariant-loop-first
invariant-loop-first l = (term_size l.left ≤ term_size l.a) × LeadsTo l.a l.b l.fn.solved l.left l.right l.solved

abbrev pub decreases-loop-first : goal.decreases-loop-first
decreases-loop-first l = term_size l.left
