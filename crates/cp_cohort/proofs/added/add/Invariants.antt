use Rattle.cp_cohort.proofs.UntilGiven.{PutsFirst, EventsOf, FirstEventsOf}
use Rattle.cp_cohort.proofs.added.add.Given as goal

abbrev pub invariant-loop-role : goal.invariant-loop-role
invariant-loop-role g l =
    PutsFirst (g.S.GivesPatterns.gives l.source) (λ role. EventsOf l.guarded_test role.value) (λ role. FirstEventsOf l.guarded_test role.value) l.all l.role-index l.initial.children.items l.children.items
