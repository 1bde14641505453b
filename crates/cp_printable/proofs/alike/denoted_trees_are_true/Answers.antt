use Rattle.cp_printable.proofs.DenotedTrees.{report_true, printed_true}
use Rattle.cp_printable.proofs.FittingPairs.{denoted_pairs}
use Rattle.cp_printable.proofs.alike.denoted_trees_are_true.Goals as goal

pub returns : goal.returns
returns c = record { printed = printed_true; denoted = report_true; pairs = denoted_pairs }
