use Rattle.std.proofs.Common.{take}
use Rattle.cp_skel.specs.Kinds.{IsInFirstAlone}
use Rattle.cp_skel.specs.Deletion.{LeavesOut, as_it_is}
use Rattle.cp_skel.proofs.assumptions_left.atoms_left.Given as goal

-- what is left is left of the atoms so far
abbrev pub invariant-loop-atom : goal.invariant-loop-atom
invariant-loop-atom l = LeavesOut (IsInFirstAlone l.gave l.elsewhere l.own) as_it_is (take l.atom-index l.atoms) l.left.items
