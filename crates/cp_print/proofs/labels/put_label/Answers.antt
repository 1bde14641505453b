use Rattle.std.proofs.Common.{◌≡◌, true, [], ◌∷◌, ◌++◌, length, refl, ap, ◌∙◌, codes, map, List}
use Rattle.cp_model.specs.Given.{listed}
use Rattle.cp_model.specs.declared.variable.Declaration.{Declaration}
use Rattle.cp_language.specs.Names.{label_names}
use Rattle.cp_language.specs.Printed.{word, numeral, atom_form}
use Rattle.cp_language.specs.Report.{named_by, occurring, vars_from, item_unless_empty, covering_pairs, unique_form}
use Rattle.cp_sexpr.specs.Spelling.{top_spelling}
use Rattle.cp_print.specs.MarkedForms.{vars_by}
use Rattle.cp_print.specs.Spelled.{items_text}
use Rattle.cp_print.proofs.ByFlags.{vars-by}
use Rattle.cp_print.proofs.LabelForms.{label_whole, strand_items, assumption_items, result_items, three_apart}
use Rattle.cp_print.proofs.SpelledItems.{then_items, one_item, same_text, top_list}
use Rattle.cp_print.proofs.labels.put_label.Goals as goal

pub returns : goal.returns
returns c =
    let l = c.args.label.now in
    let of_problem = c.args.of_problem.now in
    let xs = occurring l in
    let ds = l.skeleton.variables in
    let known = c.in-Ok.ensures in
    let vs = c.in-Ok.variables in
    let names = label_names of_problem xs ds in
    let named = c.deref.result.now in
    let vars : vars_by vs.names.items vs.flags.items 0 vs.declared.items ≡ vars_from names xs 0 ds =
    ap (λ ns. vars_by ns vs.flags.items 0 vs.declared.items) known.names
    ∙ ap (λ (es : List Declaration). vars_by names vs.flags.items 0 es) known.declared
    ∙ vars-by xs (length ds) vs.flags.items known.flags names ds refl in
    let number = numeral c.args.number ∷ [] in
    let strands = strand_items of_problem l named (vars_by vs.names.items vs.flags.items 0 vs.declared.items) in
    let precedes = item_unless_empty (codes "precedes") (covering_pairs l.skeleton) in
    let non = item_unless_empty (codes "non-orig") (map (atom_form (named_by named)) (listed l.skeleton).non_originating) in
    let penetrator = item_unless_empty (codes "pen-non-orig") (map (atom_form (named_by named)) (listed l.skeleton).penetrator_non_originating) in
    let unique = item_unless_empty (codes "uniq-orig") (map (unique_form (named_by named)) (listed l.skeleton).uniquely_originating) in
    let assumptions = same_text (ap (items_text true) (three_apart precedes non penetrator unique)) (then_items true precedes (non ++ penetrator ++ unique) c.put_order.ensures c.put_listed.ensures) in
    let results = result_items of_problem l named in
    let items = then_items true (number ++ strands ++ assumption_items of_problem l named) results
    (then_items true (number ++ strands) (assumption_items of_problem l named) (then_items true number strands (one_item true (numeral c.args.number) c.put_numeral.ensures) c.put_strand_items.ensures) assumptions) c.put_result_items.ensures in
    same_text (ap top_spelling (label_whole of_problem l c.args.number named (vars_by vs.names.items vs.flags.items 0 vs.declared.items) _ (c.deref.ensures.value ∙ known.names) vars refl))
    (top_list (word (codes "label")) (number ++ strands ++ assumption_items of_problem l named ++ results) c.append.ensures items c.append-2.ensures)
