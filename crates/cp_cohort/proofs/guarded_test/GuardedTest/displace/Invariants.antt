use Rattle.std.proofs.Common.{take}
use Rattle.cp_model.specs.Problem.{numbers_from}
use Rattle.cp_cohort.specs.GatheredLists.{EachGives}
use Rattle.cp_cohort.specs.Cohort.{DisplacesStrand}
use Rattle.cp_cohort.specs.Views.{PutsChildren}
use Rattle.cp_cohort.proofs.guarded_test.GuardedTest.displace.Given as goal

abbrev pub invariant-loop-number : goal.invariant-loop-number
invariant-loop-number l = PutsChildren (EachGives (DisplacesStrand l.self) (take l.number (numbers_from 0 l.self.skeleton.strands))) l.initial.children.items l.children.items
