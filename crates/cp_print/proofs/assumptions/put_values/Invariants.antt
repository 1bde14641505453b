use Rattle.std.proofs.Common.{false, drop}
use Rattle.cp_language.specs.Report.{value_forms}
use Rattle.cp_print.specs.Named.{named_in}
use Rattle.cp_print.proofs.SpelledItems.{ItemsLeft}
use Rattle.cp_print.proofs.assumptions.put_values.Given as goal

abbrev pub invariant-loop-number : goal.invariant-loop-number
invariant-loop-number l =
    ItemsLeft false l.fn.out l.out (value_forms (named_in l.naming) (drop l.number l.names) (drop l.number l.values)) (value_forms (named_in l.naming) l.names l.values)
