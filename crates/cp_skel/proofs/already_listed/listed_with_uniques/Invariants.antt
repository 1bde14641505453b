use Rattle.std.proofs.Common.{take, map}
use Rattle.cp_model.specs.Given.{has_unique, uniques_onto}
use Rattle.cp_strand.specs.Givens.{unique_on}
use Rattle.cp_skel.specs.InOrder.{ListsTo}
use Rattle.cp_skel.proofs.already_listed.listed_with_uniques.Given as goal

abbrev pub invariant-loop-unique : goal.invariant-loop-unique
invariant-loop-unique l = ListsTo has_unique uniques_onto l.old l.start (map (unique_on l.strand) (take l.unique-index l.given)) l.count
