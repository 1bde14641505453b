use Rattle.cp_print.proofs.SpelledItems.{none_listed, some_listed}
use Rattle.cp_print.proofs.writing.put_section.Goals as goal

pub returns-then-not-is_empty : goal.returns-then-not-is_empty
returns-then-not-is_empty g c = some_listed c.args.head.now (g.T.Printed.printed c.args.names.now) c.args.items.now _ c.is_empty.ensures c.if-not-is_empty.true c.put_list.ensures

pub returns-else-not-is_empty : goal.returns-else-not-is_empty
returns-else-not-is_empty g c = none_listed c.args.head.now (g.T.Printed.printed c.args.names.now) c.args.out.now c.args.items.now _ c.is_empty.ensures c.if-not-is_empty.false
