use Rattle.std.proofs.Common.{take}
use Rattle.cp_skel.specs.InOrder.{ListsTo}
use Rattle.cp_skel.proofs.already_listed.listed_with_all.Given as goal

abbrev pub invariant-loop-item : goal.invariant-loop-item
invariant-loop-item g l = ListsTo g.T.Gathered.among g.T.Gathered.onto l.old l.start (take l.item-index l.stated) l.count
