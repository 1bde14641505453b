use Rattle.std.proofs.Common.{take}
use Rattle.cp_cohort.specs.GatheredLists.{EachGives}
use Rattle.cp_cohort.specs.Cohort.{Listens}
use Rattle.cp_cohort.specs.Views.{PutsChildren}
use Rattle.cp_cohort.proofs.listeners.listen.Given as goal

abbrev pub invariant-loop-term : goal.invariant-loop-term
invariant-loop-term l = PutsChildren (EachGives (Listens l.guarded_test) (take l.term-index l.term-items)) l.initial.children.items l.children.items
