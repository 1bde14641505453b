use Rattle.std.proofs.Common.{false, map}
use Rattle.cp_language.specs.Printed.{word, numeral}
use Rattle.cp_print.specs.Spelled.{item_text, items_text}
use Rattle.cp_print.proofs.SpelledItems.{then}
use Rattle.cp_print.proofs.items.put_words.Goals as goal

pub returns : goal.returns
returns c = then (item_text false (word c.args.text.now)) (items_text false (map numeral c.args.numbers.now)) c.put_word.ensures c.put_each.ensures
