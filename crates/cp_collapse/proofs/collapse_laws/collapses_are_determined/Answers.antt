use Rattle.cp_collapse.proofs.Determined.{collapse_is_possible, partitions_determined, one_substitution}
use Rattle.cp_collapse.proofs.collapse_laws.collapses_are_determined.Goals as goal

pub returns-clause-possible : goal.returns-clause-possible
returns-clause-possible c = collapse_is_possible

pub returns-clause-partitions : goal.returns-clause-partitions
returns-clause-partitions c = partitions_determined

pub returns-clause-unifiers : goal.returns-clause-unifiers
returns-clause-unifiers c = one_substitution
