use Rattle.std.proofs.Common.{drop}
use Rattle.cp_lists.specs.Lists.{IsIn}
use Rattle.cp_strand.proofs.same.has.Given as goal

abbrev pub invariant-loop-other : goal.invariant-loop-other
invariant-loop-other g l = IsIn l.item l.items → IsIn l.item (drop l.other-index l.items)
