use Rattle.std.proofs.Common.{length}
use Rattle.cp_roots.proofs.PutForms.{PutsSoFar}
use Rattle.cp_roots.proofs.gathered_roots.put_forms.Given as goal

abbrev pub invariant-loop-skeleton : goal.invariant-loop-skeleton
invariant-loop-skeleton l = PutsSoFar l.operation l.initial.rest.items l.rest.items l.initial.roots.items l.roots.items

abbrev pub decreases-loop-skeleton : goal.decreases-loop-skeleton
decreases-loop-skeleton l = length l.rest.items
