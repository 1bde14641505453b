use Rattle.std.proofs.Common.{◌≡◌, drop}
use Rattle.cp_report.specs.Skeletons.{are_mapped}
use Rattle.cp_spelled.proofs.maplets.are_mapped.Given as goal

abbrev pub invariant-loop-declaration : goal.invariant-loop-declaration
invariant-loop-declaration l = are_mapped (drop l.declaration-index l.wanted) l.mapped ≡ are_mapped l.wanted l.mapped
