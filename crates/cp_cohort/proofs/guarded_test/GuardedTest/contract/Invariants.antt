use Rattle.std.proofs.Common.{take}
use Rattle.cp_cohort.specs.GatheredLists.{EachGives}
use Rattle.cp_cohort.specs.Children.{ContractsEvent}
use Rattle.cp_cohort.specs.Views.{PutsChildren}
use Rattle.cp_cohort.proofs.guarded_test.GuardedTest.contract.Given as goal

abbrev pub invariant-loop-occurrence : goal.invariant-loop-occurrence
invariant-loop-occurrence l = PutsChildren (EachGives (ContractsEvent l.self) (take l.occurrence-index l.occurrences)) l.initial.children.items l.children.items
