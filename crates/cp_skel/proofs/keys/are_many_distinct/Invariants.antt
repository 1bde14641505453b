use Rattle.std.proofs.Common.{take}
use Rattle.cp_lists.specs.Lists.{IsIn}
use Rattle.cp_model.specs.GivenAssumptions.{IsEachOnce}
use Rattle.cp_skel.specs.KeyTable.{HasKey}
use Rattle.cp_skel.proofs.keys.are_many_distinct.Given as goal

abbrev pub invariant-loop-index : goal.invariant-loop-index
invariant-loop-index g l = record {
  once : IsEachOnce (take l.index l.items);
  keyed : (v : _) → IsIn v (take l.index l.items) → HasKey l.keys (g.T.Gathered.key v);
}
