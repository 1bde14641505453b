use Rattle.std.proofs.Common.{◌≡◌, drop}
use Rattle.cp_load.specs.Originations.{originates}
use Rattle.cp_load.proofs.unique_origins.originates.Given as goal

abbrev pub invariant-loop-strand : goal.invariant-loop-strand
invariant-loop-strand l = originates (drop l.strand-index l.strands) l.value ≡ originates l.strands l.value
