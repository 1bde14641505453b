use Rattle.cp_collapse.proofs.Merged.{merging_is_homomorphism}
use Rattle.cp_collapse.proofs.MergedSkeletons.{merged_is_skeleton}
use Rattle.cp_collapse.proofs.CollapsesCover.{collapses_are_complete, standings_go_through}
use Rattle.cp_collapse.proofs.collapse_laws.collapses_cover.Goals as goal

pub returns-clause-skeleton : goal.returns-clause-skeleton
returns-clause-skeleton c = λ protocol k l p sk m. merged_is_skeleton k l p m protocol sk

pub returns-clause-homomorphism : goal.returns-clause-homomorphism
returns-clause-homomorphism c = λ protocol k l p sk m. merging_is_homomorphism k l p m sk.order_pairs

pub returns-clause-covers : goal.returns-clause-covers
returns-clause-covers c = collapses_are_complete

pub returns-clause-through : goal.returns-clause-through
returns-clause-through c = standings_go_through
