use Rattle.cp_theory.proofs.NoneLeftOut.{covering_leaves_none_out, empty_where_it_stands_nowhere}
use Rattle.std.specs.Prelude.{[], map}
use Rattle.cp_cohort.specs.CoveringChildren.{Child}
use Rattle.cp_cohort.proofs.CohortCovers.{cohort_covers}
use Rattle.cp_cohort.proofs.ThroughChild.{goes_through_child}
use Rattle.cp_cohort.proofs.cohorts.cohorts_cover.Goals as goal

pub returns-clause-covering : goal.returns-clause-covering
returns-clause-covering c = cohort_covers

pub returns-clause-leaves_none_out : goal.returns-clause-leaves_none_out
returns-clause-leaves_none_out c = λ protocol q children sk declares declared is_test guards is.
    covering_leaves_none_out protocol q.skeleton q.node q.critical q.patterns (map (λ (d : Child). d.skeleton) children) sk is_test guards (cohort_covers protocol q children sk declares declared is_test guards is)

pub returns-clause-through_the_child : goal.returns-clause-through_the_child
returns-clause-through_the_child c = λ protocol q children sk declares declared is_test guards is b h bundle stands apart.
    goes_through_child protocol q children is b h stands
    (covering_leaves_none_out protocol q.skeleton q.node q.critical q.patterns (map (λ (d : Child). d.skeleton) children) sk is_test guards (cohort_covers protocol q children sk declares declared is_test guards is) b h bundle stands apart)

pub returns-clause-nowhere : goal.returns-clause-nowhere
returns-clause-nowhere c = λ protocol q sk declares declared is_test guards is.
    empty_where_it_stands_nowhere protocol q.skeleton (covering_leaves_none_out protocol q.skeleton q.node q.critical q.patterns [] sk is_test guards (cohort_covers protocol q [] sk declares declared is_test guards is))
