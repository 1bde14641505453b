use Rattle.std.proofs.Common.{take}
use Rattle.cp_normal.specs.Candidates.{AreOpenBranches}
use Rattle.cp_normal.proofs.unified_branches.branches.Given as goal

abbrev pub invariant-loop-atom : goal.invariant-loop-atom
invariant-loop-atom l = AreOpenBranches l.form l.value (take l.atom-index l.atoms) l.branches.items
