use Rattle.std.proofs.Common.{false, [], ◌∷◌, codes}
use Rattle.cp_language.specs.Printed.{variable, word}
use Rattle.cp_model.specs.declared.sort.Sort.TheVariants.{Akey}
use Rattle.cp_print.specs.Named.{named_in}
use Rattle.cp_print.proofs.SpelledItems.{one_item, whole_list}
use Rattle.cp_print.proofs.terms.put_inverse.Goals as goal

pub returns : goal.returns
returns c =
    let key = named_in c.args.naming.now (variable Akey c.args.id) in
    whole_list (word (codes "invk")) (key ∷ []) c.append.ensures (one_item false key c.put_variable.ensures) c.push.ensures
