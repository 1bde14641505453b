use Rattle.std.proofs.Common.{false, [], ◌∷◌, codes}
use Rattle.cp_language.specs.Printed.{variable, word}
use Rattle.cp_model.specs.declared.sort.Sort.TheVariants.{Name}
use Rattle.cp_print.specs.Named.{named_in}
use Rattle.cp_print.specs.Spelled.{item_text, items_text}
use Rattle.cp_print.proofs.SpelledItems.{then, one_item, whole_list}
use Rattle.cp_print.proofs.terms.put_long_term_key.Goals as goal

pub returns : goal.returns
returns c =
    let a = named_in c.args.naming.now (variable Name c.args.a) in
    let b = named_in c.args.naming.now (variable Name c.args.b) in
    whole_list (word (codes "ltk")) (a ∷ b ∷ []) c.append.ensures (then (item_text false a) (items_text false (b ∷ [])) c.put_variable.ensures (one_item false b c.put_variable-2.ensures)) c.push.ensures
