use Rattle.std.proofs.Common.{true, false, ◌∷◌, List, ℕ, map, ap, ◌∙◌, codes}
use Rattle.cp_language.specs.Printed.{plain_list, numeral, word}
use Rattle.cp_language.specs.Report.{value_forms}
use Rattle.cp_model.specs.Term.{Term}
use Rattle.cp_print.specs.Named.{named_in}
use Rattle.cp_print.specs.Spelled.{item_text, items_text}
use Rattle.cp_print.proofs.SpelledItems.{then, same_text, list_item}
use Rattle.cp_print.proofs.assumptions.put_map.Goals as goal

pub returns : goal.returns
returns c =
    let named = named_in c.args.naming.now in
    let names = c.args.of_problem.now in
    let way = c.args.skeleton.now.from_problem in
    let is = c.from_problem-way.ensures in
    let strands = plain_list (map numeral way.strands) in
    let values = value_forms named names way.values in
    let first = same_text (ap (λ (ss : List ℕ). item_text false (plain_list (map numeral ss))) (c.strands.ensures ∙ ap (λ p. p.strands) is)) c.put_strands.ensures in
    let others = same_text (ap (λ (ts : List Term). items_text false (value_forms named names ts)) (c.values.ensures ∙ ap (λ p. p.values) is)) c.put_values.ensures in
    list_item (word (codes "map")) (strands ∷ values) true c.begin_list.ensures (then (item_text false strands) (items_text false values) first others) c.push.ensures
