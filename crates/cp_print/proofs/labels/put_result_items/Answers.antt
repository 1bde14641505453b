use Rattle.std.proofs.Common.{true, ◌∷◌, [], ◌++◌, codes, map, ap}
use Rattle.cp_language.specs.Printed.{numeral, pattern_form}
use Rattle.cp_language.specs.Report.{named_by, item_unless_empty, node_form, map_form, test_items, mark_items}
use Rattle.cp_print.specs.Named.{named_in}
use Rattle.cp_print.specs.Spelled.{items_text}
use Rattle.cp_print.proofs.SpelledItems.{then_items, one_item, same_text}
use Rattle.cp_print.proofs.labels.put_result_items.Goals as goal

pub returns : goal.returns
returns c =
    let l = c.args.label.now in
    let named = named_in c.args.naming.now in
    let pattern = pattern_form (named_by c.args.naming.now.names.now) in
    let way = map_form named c.args.of_problem.now l.skeleton in
    let nodes = item_unless_empty (codes "unrealised") (map node_form l.unrealised) in
    let test = test_items named l.test in
    let escape = item_unless_empty (codes "escape") (map pattern l.escape) in
    let children = item_unless_empty (codes "children") (map numeral l.children) in
    let put_nodes = same_text (ap (λ xs. items_text true (item_unless_empty (codes "unrealised") (map node_form xs))) c.as_slice.ensures) c.put_section.ensures in
    let put_escape = same_text (ap (λ xs. items_text true (item_unless_empty (codes "escape") (map pattern xs))) c.as_slice-2.ensures) c.put_section-2.ensures in
    let put_children = same_text (ap (λ xs. items_text true (item_unless_empty (codes "children") (map numeral xs))) c.as_slice-3.ensures) c.put_section-3.ensures in
    then_items true (way ∷ [] ++ nodes ++ test ++ escape ++ children) (mark_items l.mark)
    (then_items true (way ∷ [] ++ nodes ++ test ++ escape) children
    (then_items true (way ∷ [] ++ nodes ++ test) escape
    (then_items true (way ∷ [] ++ nodes) test (then_items true (way ∷ []) nodes (one_item true way c.put_map.ensures) put_nodes) c.put_test.ensures) put_escape) put_children) c.put_mark.ensures
