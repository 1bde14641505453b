use Rattle.std.proofs.Common.{true, ◌++◌, codes, map, ap}
use Rattle.cp_language.specs.Printed.{atom_form}
use Rattle.cp_language.specs.Report.{named_by, item_unless_empty, unique_form}
use Rattle.cp_print.specs.Spelled.{items_text}
use Rattle.cp_print.proofs.SpelledItems.{then_items, same_text}
use Rattle.cp_print.proofs.labels.put_assumptions.Goals as goal

pub returns : goal.returns
returns c =
    let a = c.args.assumptions.now in
    let atom = atom_form (named_by c.args.names.now) in
    let unique = unique_form (named_by c.args.names.now) in
    let non = item_unless_empty (codes "non-orig") (map atom a.non_originating) in
    let penetrator = item_unless_empty (codes "pen-non-orig") (map atom a.penetrator_non_originating) in
    let uniques = item_unless_empty (codes "uniq-orig") (map unique a.uniquely_originating) in
    let put_non = same_text (ap (λ xs. items_text true (item_unless_empty (codes "non-orig") (map atom xs))) c.non_originating.ensures) c.put_section.ensures in
    let put_penetrator = same_text (ap (λ xs. items_text true (item_unless_empty (codes "pen-non-orig") (map atom xs))) c.penetrator_non_originating-penetrator_non.ensures) c.put_section-2.ensures in
    let put_uniques = same_text (ap (λ xs. items_text true (item_unless_empty (codes "uniq-orig") (map unique xs))) c.uniquely_originating-uniques.ensures) c.put_section-3.ensures in
    then_items true (non ++ penetrator) uniques (then_items true non penetrator put_non put_penetrator) put_uniques
