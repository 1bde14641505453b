use Rattle.std.proofs.Common.{take}
use Rattle.cp_model.specs.GivenAssumptions.{IsEachOnce}
use Rattle.cp_skel.proofs.keys.are_few_distinct.Given as goal

abbrev pub invariant-loop-index : goal.invariant-loop-index
invariant-loop-index g l = IsEachOnce (take l.index l.items)
