use Rattle.std.proofs.Common.{true, map}
use Rattle.cp_language.specs.Printed.{word}
use Rattle.cp_print.proofs.SpelledItems.{list_item}
use Rattle.cp_print.proofs.writing.put_list.Goals as goal

pub returns : goal.returns
returns g c = list_item (word c.args.head.now) (map (g.T.Printed.printed c.args.names.now) c.args.items.now) true c.begin_list.ensures c.put_each.ensures c.push.ensures
