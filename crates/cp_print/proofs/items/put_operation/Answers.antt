use Rattle.std.proofs.Common.{true, codes}
use Rattle.cp_language.specs.Printed.{word}
use Rattle.cp_language.specs.Report.{operation_words}
use Rattle.cp_print.proofs.SpelledItems.{list_item}
use Rattle.cp_print.proofs.items.put_operation.Goals as goal

pub returns : goal.returns
returns c = list_item (word (codes "by")) (operation_words c.args.operation.now) true c.begin_list.ensures c.put_operation_words.ensures c.push.ensures
