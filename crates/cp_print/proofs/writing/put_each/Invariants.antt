use Rattle.std.proofs.Common.{false, map, drop}
use Rattle.cp_print.proofs.SpelledItems.{ItemsLeft}
use Rattle.cp_print.proofs.writing.put_each.Given as goal

abbrev pub invariant-loop-item : goal.invariant-loop-item
invariant-loop-item g l = ItemsLeft false l.fn.out l.out (map (g.T.Printed.printed l.names) (drop l.item-index l.items)) (map (g.T.Printed.printed l.names) l.items)
