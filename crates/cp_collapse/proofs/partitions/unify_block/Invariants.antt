use Rattle.cp_collapse.specs.FirstPartitions.{IsExactFor, EqualsBlock}
use Rattle.cp_collapse.proofs.partitions.unify_block.Given as goal

abbrev pub invariant-loop-strand : goal.invariant-loop-strand
invariant-loop-strand l = IsExactFor (EqualsBlock l.k l.partial.lowest.items l.number l.block l.strand) l.bindings.value
