use Rattle.std.proofs.Common.{take}
use Rattle.cp_skel.specs.InOrder.{given_from, ListEach}
use Rattle.cp_skel.proofs.already_listed.listed_with_strands.Given as goal

abbrev pub invariant-loop-number : goal.invariant-loop-number
invariant-loop-number l = ListEach l.old l.fn.start (given_from 0 (take l.number l.strands)) l.counts
