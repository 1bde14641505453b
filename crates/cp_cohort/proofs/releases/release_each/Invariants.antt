use Rattle.cp_cohort.specs.Children.{ReleasesPut}
use Rattle.cp_cohort.specs.Views.{operation_of_made}
use Rattle.cp_cohort.proofs.UntilGiven.{PutsFirst}
use Rattle.cp_cohort.proofs.releases.release_each.Given as goal

abbrev pub invariant-loop-path : goal.invariant-loop-path
invariant-loop-path g l =
    let gives = ReleasesPut l.guarded_test (operation_of_made l.made) l.node l.put l.message in
    PutsFirst (g.S.GivesPatterns.gives l.source) gives gives l.path-items l.path-index l.initial.children.items l.children.items
