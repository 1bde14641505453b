use Rattle.std.proofs.Common.{true, map, drop}
use Rattle.cp_language.specs.Report.{strand_form}
use Rattle.cp_print.specs.Named.{named_in}
use Rattle.cp_print.proofs.SpelledItems.{ItemsLeft}
use Rattle.cp_print.proofs.strands.put_strands.Given as goal

abbrev pub invariant-loop-strand : goal.invariant-loop-strand
invariant-loop-strand l = ItemsLeft true l.fn.out l.out (map (strand_form (named_in l.naming)) (drop l.strand-index l.strands)) (map (strand_form (named_in l.naming)) l.strands)
