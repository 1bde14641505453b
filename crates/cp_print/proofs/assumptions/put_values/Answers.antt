use Rattle.std.proofs.Common.{false, [], ◌∷◌, ◌≤◌, ◌<◌, length, min, ap, arith}
use Rattle.cp_language.specs.Printed.{plain_list, word, term_form}
use Rattle.cp_language.specs.Report.{value_forms}
use Rattle.cp_print.specs.Named.{named_in}
use Rattle.cp_print.specs.Spelled.{item_text}
use Rattle.cp_print.proofs.SpelledItems.{items_begin, items_go_on, items_end, same_text}
use Rattle.cp_print.proofs.ValueForms.{value_next, values_done}
use Rattle.cp_print.proofs.assumptions.put_values.Goals as goal

pub loop-number-init : goal.loop-number-init
loop-number-init c = items_begin false c.args.out.now (value_forms (named_in c.args.naming.now) c.args.names.now c.args.values.now)

pub loop-number-preserved : goal.loop-number-preserved
loop-number-preserved c =
    let l = c.loop-number in
    let named = named_in c.args.naming.now in
    let value = term_form named c.index-values-number.result in
    let within : l.number < min (length c.args.names.now) (length c.args.values.now) = omega (arith, c.loop-number-test.true, c.min-number-end.ensures, l.auto.number-end) in
    items_go_on false (plain_list (word c.index-names-number.result ∷ value ∷ [])) _ _ _ l.invariant
    (value_next named c.args.names.now c.args.values.now l.number c.index-names-number.result c.index-values-number.result within c.index-names-number.is c.index-values-number.is)
    (same_text (ap (λ t. item_text false (plain_list (word t ∷ value ∷ []))) c.as_str.ensures) c.put_pair.ensures)

pub returns : goal.returns
returns c =
    let l = c.loop-number in
    let past : min (length c.args.names.now) (length c.args.values.now) ≤ l.number = omega (arith, c.loop-number-test.false, c.min-number-end.ensures, l.auto.number-end) in
    items_end false _ _ l.invariant (values_done (named_in c.args.naming.now) c.args.names.now c.args.values.now l.number past)
