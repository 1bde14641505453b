use Rattle.std.proofs.Common.{true, [], ◌∷◌, ◌++◌, refl, ap, codes, length}
use Rattle.cp_language.specs.Printed.{word, numeral}
use Rattle.cp_language.specs.Report.{outcome_words}
use Rattle.cp_sexpr.specs.Spelling.{top_spelling}
use Rattle.cp_print.proofs.SpelledItems.{then_items, same_text, top_list}
use Rattle.cp_print.proofs.StatusForms.{status_is}
use Rattle.cp_print.proofs.report.put_status.Goals as goal

pub returns : goal.returns
returns c =
    let t = c.args.tree.now in
    let ls = c.as_slice-labels.result.now in
    let labels = word (codes "labels") ∷ numeral (length ls) ∷ [] in
    let expanded = word (codes "expanded") ∷ numeral c.expanded_count.result ∷ [] in
    let shapes = word (codes "shapes") ∷ numeral c.shape_count.result ∷ [] in
    let counts = then_items true (labels ++ expanded) shapes (then_items true labels expanded c.put_count.ensures c.put_count-2.ensures) c.put_count-3.ensures in
    let items = then_items true (outcome_words t.outcome) (labels ++ expanded ++ shapes) c.put_outcome.ensures counts in
    same_text (ap top_spelling (status_is t ls (length ls) c.expanded_count.result c.shape_count.result c.as_slice-labels.ensures refl c.expanded_count.ensures c.shape_count.ensures))
    (top_list (word (codes "status")) (outcome_words t.outcome ++ (labels ++ expanded ++ shapes)) c.append.ensures items c.append-2.ensures)
