use Rattle.std.proofs.Common.{◌≡◌, false, [], ◌∷◌, codes, ap, ◌∙◌}
use Rattle.std.specs.Prelude.{Some, None}
use Rattle.cp_language.specs.Names.{sort_text}
use Rattle.cp_language.specs.Printed.{word, numeral, variable, place_among, local_or_name}
use Rattle.cp_language.specs.Report.{named_by, name_or_none}
use Rattle.cp_lists.specs.Lists.{item_at}
use Rattle.cp_sexpr.specs.Spelling.{spelling}
use Rattle.cp_print.specs.Spelled.{item_text, items_text}
use Rattle.cp_print.proofs.SpelledItems.{then, one_item, same_text, whole_list}
use Rattle.cp_print.proofs.variable_names.Naming.put.Goals as goal

pub returns-in-Some : goal.returns-in-Some
returns-in-Some c =
    let n = c.args.self.now in
    let x = variable c.args.sort c.args.id in
    let place = numeral c.in-Some.place in
    let sort = word (sort_text c.args.sort) in
    let e : Some c.in-Some.place ≡ place_among 0 n.locals.now x = c.in-Some.ensures ∙ ap (λ k. place_among 0 n.locals.now (variable c.args.sort k)) c.number-number.ensures in
    let items = then (item_text false sort) (items_text false (place ∷ [])) (same_text (ap (λ t. item_text false (word t)) c.sort_text.ensures) c.put_word.ensures) (one_item false place c.put_numeral.ensures) in
    same_text (ap (λ p. spelling (local_or_name (named_by n.names.now) x p)) e) (whole_list (word (codes "any")) (sort ∷ place ∷ []) c.append.ensures items c.push.ensures)

pub returns-in-None : goal.returns-in-None
returns-in-None c =
    let n = c.args.self.now in
    let x = variable c.args.sort c.args.id in
    let e : None ≡ place_among 0 n.locals.now x = c.in-None.ensures ∙ ap (λ k. place_among 0 n.locals.now (variable c.args.sort k)) c.number-number.ensures in
    same_text (c.as_bytes.ensures.value ∙ c.name_of.ensures ∙ ap (λ k. name_or_none (item_at n.names.now k)) c.number-number.ensures ∙ ap (λ p. spelling (local_or_name (named_by n.names.now) x p)) e) c.append-in-None.ensures
