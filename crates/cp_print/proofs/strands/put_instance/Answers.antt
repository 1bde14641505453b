use Rattle.std.proofs.Common.{rules, ◌≡◌, true, false, ◌∷◌, refl, ap, ◌∙◌, codes}
use Rattle.cp_language.specs.Printed.{word, numeral}
use Rattle.cp_language.specs.Report.{maplets_from}
use Rattle.cp_model.specs.Bindings.{bindings_of}
use Rattle.cp_model.specs.Strand.{variables_of_prefix}
use Rattle.cp_print.specs.Named.{named_in}
use Rattle.cp_print.specs.Spelled.{item_text, items_text}
use Rattle.cp_print.proofs.ByFlags.{instance_maplets, defstrand_is}
use Rattle.cp_print.proofs.SpelledItems.{then, same_text, list_item}
use Rattle.cp_print.proofs.strands.put_instance.Goals as goal

pub returns : goal.returns
returns c =
    let i = c.args.instance.now in
    let named = named_in c.args.naming.now in
    let role = c.deref-role.result.now in
    let h = c.height-height.result in
    let prefix = variables_of_prefix role h in
    let values = c.values.result.now in
    let r : role ≡ i.role = search rules in
    let name = word role.name in
    let height = numeral h in
    let maplets = maplets_from named prefix (bindings_of values) 0 role.variables in
    let put_maplets = same_text (ap (items_text false) (instance_maplets named prefix role.variables values)) c.put_maplets.ensures in
    let put_name = same_text (ap (λ t. item_text false (word t)) (c.as_str.ensures ∙ c.name.ensures)) c.put_word.ensures in
    let items = then (item_text false name) (items_text false (height ∷ maplets)) put_name (then (item_text false height) (items_text false maplets) c.put_numeral.ensures put_maplets) in
    same_text (ap (item_text true) (defstrand_is named role i.role role.name h h i.height values i.values r refl c.height-height.ensures c.height-height.ensures c.values.ensures))
    (list_item (word (codes "defstrand")) (name ∷ height ∷ maplets) true c.begin_list.ensures items c.push.ensures)
