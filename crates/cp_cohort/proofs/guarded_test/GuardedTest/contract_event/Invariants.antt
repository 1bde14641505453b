use Rattle.std.proofs.Common.{take}
use Rattle.cp_cohort.specs.GatheredLists.{EachGives}
use Rattle.cp_cohort.specs.Cohort.{Contracts}
use Rattle.cp_cohort.specs.Views.{PutsChildren}
use Rattle.cp_cohort.proofs.guarded_test.GuardedTest.contract_event.Given as goal

abbrev pub invariant-loop-path : goal.invariant-loop-path
invariant-loop-path l = PutsChildren (EachGives (Contracts l.self l.occurrence) (take l.path-index l.path-items)) l.initial.children.items l.children.items
