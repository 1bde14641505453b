use Rattle.std.proofs.Common.{take}
use Rattle.cp_model.specs.Problem.{numbers_from}
use Rattle.cp_cohort.specs.GatheredLists.{EachGives}
use Rattle.cp_cohort.specs.Cohort.{DisplacesEvent}
use Rattle.cp_cohort.specs.Views.{PutsChildren}
use Rattle.cp_cohort.proofs.guarded_test.GuardedTest.displace_strand.Given as goal

abbrev pub invariant-loop-index : goal.invariant-loop-index
invariant-loop-index l = PutsChildren (EachGives (DisplacesEvent l.self l.number l.instance.role l.instance.height) (take l.index (numbers_from 0 l.instance.role.trace))) l.initial.children.items l.children.items
