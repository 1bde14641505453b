use Rattle.std.proofs.Common.{length}
use Rattle.cp_roots.proofs.RootsSoFar.{AreRootsSoFar}
use Rattle.cp_roots.proofs.problem_roots.roots.Given as goal

abbrev pub invariant-loop-collapse : goal.invariant-loop-collapse
invariant-loop-collapse l = AreRootsSoFar l.initial.rest.items l.rest.items l.initial.roots.items l.roots.items

abbrev pub decreases-loop-collapse : goal.decreases-loop-collapse
decreases-loop-collapse l = length l.rest.items
