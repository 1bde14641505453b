use Rattle.std.proofs.Common.{◌≡◌, drop}
use Rattle.cp_report.specs.Skeletons.{has_atoms}
use Rattle.cp_stated.proofs.values.has_atoms.Given as goal

abbrev pub invariant-loop-value : goal.invariant-loop-value
invariant-loop-value l = has_atoms l.values (drop l.value-index l.wanted) ≡ has_atoms l.values l.wanted
