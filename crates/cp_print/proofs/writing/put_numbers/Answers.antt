use Rattle.std.proofs.Common.{decimal, false, map}
use Rattle.cp_language.specs.Printed.{numeral}
use Rattle.cp_print.specs.Spelled.{items_text}
use Rattle.cp_print.proofs.SpelledItems.{then, same_text, first_numbers, no_numbers}
use Rattle.cp_print.proofs.writing.put_numbers.Goals as goal

pub returns-in-Some : goal.returns-in-Some
returns-in-Some c =
    let first = c.in-Some.first.now in
    let others = c.in-Some.others.now in
    same_text (first_numbers c.args.numbers.now first others c.in-Some.ensures.cases.0) (then (decimal first) (items_text false (map numeral others)) c.put_number.ensures c.put_each.ensures)

pub returns-in_default : goal.returns-in_default
returns-in_default c = no_numbers c.args.out.now c.args.numbers.now c.in_default.ensures.cases
