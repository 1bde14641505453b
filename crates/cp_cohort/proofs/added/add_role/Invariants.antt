use Rattle.cp_model.specs.Problem.{numbers_from}
use Rattle.cp_cohort.specs.Cohort.{AddsEvent, StartsEvent}
use Rattle.cp_cohort.proofs.UntilGiven.{PutsFirst}
use Rattle.cp_cohort.proofs.added.add_role.Given as goal

abbrev pub invariant-loop-index : goal.invariant-loop-index
invariant-loop-index g l =
    PutsFirst (g.S.GivesPatterns.gives l.source) (AddsEvent l.guarded_test l.role.value) (StartsEvent l.guarded_test l.role.value) (numbers_from 0 l.role.value.trace) l.index l.initial.children.items l.children.items
