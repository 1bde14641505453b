use Rattle.std.proofs.Common.{true, false, [], ◌∷◌, codes, sym, subst}
use Rattle.cp_base.specs.Growing.{Grows}
use Rattle.cp_language.specs.Printed.{headed_list, word, term_form}
use Rattle.cp_language.specs.Report.{node_form, test_items}
use Rattle.cp_print.specs.Named.{named_in}
use Rattle.cp_print.specs.Spelled.{item_text, items_text}
use Rattle.cp_print.proofs.SpelledItems.{then, one_item, list_item}
use Rattle.cp_print.proofs.assumptions.put_test.Goals as goal

pub returns-in-Some : goal.returns-in-Some
returns-in-Some c =
    let named = named_in c.args.naming.now in
    let node = node_form c.in-Some.test.node in
    let critical = term_form named c.in-Some.test.critical in
    let items = then (item_text false node) (items_text false (critical ∷ [])) c.put.ensures (one_item false critical c.put_term.ensures) in
    subst (λ t. Grows c.args.out.now c.push.new.self (items_text true (test_items named t))) (sym c.in-Some.is)
    (one_item true (headed_list (codes "test") (node ∷ critical ∷ [])) (list_item (word (codes "test")) (node ∷ critical ∷ []) true c.begin_list.ensures items c.push.ensures))
