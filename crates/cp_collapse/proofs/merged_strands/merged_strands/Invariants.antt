use Rattle.std.proofs.Common.{◌≤◌, length}
use Rattle.cp_unify.specs.Bindings.{as_substitution}
use Rattle.cp_collapse.specs.MergedStrands.{AreMergedAlike}
use Rattle.cp_collapse.proofs.merged_strands.merged_strands.Given as goal

abbrev pub invariant-loop-strand : goal.invariant-loop-strand
invariant-loop-strand l = AreMergedAlike l.k l.partial.lowest.items (as_substitution l.partial.bindings.value) l.strand l.strands.items × (l.strand ≤ length l.partial.lowest.items)
