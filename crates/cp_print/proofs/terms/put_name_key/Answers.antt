use Rattle.std.proofs.Common.{false, [], ◌∷◌, ◌++◌, ap}
use Rattle.std.specs.Option.{option_map}
use Rattle.cp_language.specs.Printed.{variable, word}
use Rattle.cp_model.specs.declared.sort.Sort.TheVariants.{Name}
use Rattle.cp_sexpr.specs.Spelling.{spelling}
use Rattle.cp_print.specs.Named.{named_in}
use Rattle.cp_print.specs.Parts.{purpose_items, name_key_word}
use Rattle.cp_print.proofs.SpelledItems.{then_items, one_item, same_text, whole_list}
use Rattle.cp_print.proofs.Spines.{name_key_is}
use Rattle.cp_print.proofs.terms.put_name_key.Goals as goal

pub returns : goal.returns
returns c =
    let named = named_in c.args.naming.now in
    let purpose = option_map (λ t. t.now) c.args.purpose in
    let name = named (variable Name c.args.name) in
    let items = then_items false (purpose_items purpose) (name ∷ []) c.put_purpose.ensures (one_item false name c.put_variable.ensures) in
    same_text (ap spelling (name_key_is named c.args.private purpose c.args.name))
    (whole_list (word (name_key_word c.args.private)) (purpose_items purpose ++ name ∷ []) (same_text c.key_opening.ensures c.append.ensures) items c.push.ensures)
