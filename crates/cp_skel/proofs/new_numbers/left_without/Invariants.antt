use Rattle.std.proofs.Common.{take}
use Rattle.cp_skel.specs.Deletion.{LeavesOut}
use Rattle.cp_skel.proofs.new_numbers.left_without.Given as goal

-- what is left is left of the items so far
abbrev pub invariant-loop-item : goal.invariant-loop-item
invariant-loop-item g l = LeavesOut (g.T.AtNodes.goes l.gone) (g.T.AtNodes.form l.gone) (take l.item-index l.items) l.left.items
