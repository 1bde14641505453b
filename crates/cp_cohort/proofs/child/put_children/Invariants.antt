use Rattle.std.proofs.Common.{◌≡◌, ◌++◌, map, reverse, length}
use Rattle.cp_cohort.specs.CoveringChildren.{child}
use Rattle.cp_cohort.specs.Views.{operation_of_made}
use Rattle.cp_cohort.proofs.child.put_children.Given as goal

abbrev pub invariant-loop-next : goal.invariant-loop-next
invariant-loop-next g l =
    l.children.items ++ map (λ x. child (operation_of_made l.made) l.path (g.T.HasSkeleton.skeleton x)) (reverse l.rest.items)
    ≡ l.initial.children.items ++ map (λ x. child (operation_of_made l.made) l.path (g.T.HasSkeleton.skeleton x)) (reverse l.initial.rest.items)

abbrev pub decreases-loop-next : goal.decreases-loop-next
decreases-loop-next g l = length l.rest.items
