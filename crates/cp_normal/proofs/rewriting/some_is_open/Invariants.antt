use Rattle.std.proofs.Common.{drop}
use Rattle.cp_normal.specs.Leaves.{HasOpen}
use Rattle.cp_normal.proofs.rewriting.some_is_open.Given as goal

abbrev pub invariant-loop-candidate : goal.invariant-loop-candidate
invariant-loop-candidate g l = HasOpen l.candidates → HasOpen (drop l.candidate-index l.candidates)
