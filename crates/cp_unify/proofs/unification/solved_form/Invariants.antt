use Rattle.std.proofs.Common.{drop}
use Rattle.cp_unify.specs.Solved.{AreSolvedBut}
use Rattle.cp_unify.proofs.unification.solved_form.Given as goal

abbrev pub invariant-loop-binding : goal.invariant-loop-binding
invariant-loop-binding l = AreSolvedBut l.binding-items (drop l.binding-index l.binding-items) l.solved
