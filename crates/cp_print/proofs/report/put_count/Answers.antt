use Rattle.std.proofs.Common.{false, [], ◌∷◌}
use Rattle.cp_language.specs.Printed.{word, numeral}
use Rattle.cp_print.specs.Spelled.{item_text, items_text}
use Rattle.cp_print.proofs.SpelledItems.{then, one_item}
use Rattle.cp_print.proofs.report.put_count.Goals as goal

pub returns : goal.returns
returns c =
    let count = numeral c.args.count in
    then (item_text false (word c.args.text.now)) (items_text false (count ∷ [])) c.put_word.ensures (one_item false count c.put_numeral.ensures)
