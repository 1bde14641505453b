use Rattle.std.proofs.Common.{drop}
use Rattle.cp_unify.proofs.LeastBound.{IsLeastSoFar}
use Rattle.cp_unify.proofs.subst.least_bound.Given as goal

abbrev pub invariant-loop-binding : goal.invariant-loop-binding
invariant-loop-binding l = IsLeastSoFar l.least (drop l.binding-index l.bindings) l.bindings
