use Rattle.std.proofs.Common.{◌++◌}
use Rattle.cp_model.specs.Term.{variables_of, apply_to}
use Rattle.cp_unify.specs.Bindings.{as_substitution, variables_of_bindings}
use Rattle.cp_unify.proofs.Steps.{IsReducedBy, unbound}
use Rattle.cp_unify.proofs.unification.solve_leaf.Given as goal

-- what is left to be solved is the equation of the terms under the bindings so far
abbrev pub invariant-loop-left : goal.invariant-loop-left
invariant-loop-left l = IsReducedBy l.a l.b l.fn.solved l.solved

-- the variables of the two terms that are not bound yet
abbrev pub decreases-loop-left : goal.decreases-loop-left
decreases-loop-left l =
    unbound (variables_of l.a ++ (variables_of l.b ++ variables_of_bindings l.fn.solved)) (apply_to (as_substitution l.solved) l.a) (apply_to (as_substitution l.solved) l.b)
