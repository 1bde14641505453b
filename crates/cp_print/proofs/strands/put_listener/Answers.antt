use Rattle.std.proofs.Common.{true, false, [], ◌∷◌, codes}
use Rattle.cp_language.specs.Printed.{word, term_form}
use Rattle.cp_print.specs.Named.{named_in}
use Rattle.cp_print.proofs.SpelledItems.{one_item, list_item}
use Rattle.cp_print.proofs.strands.put_listener.Goals as goal

pub returns : goal.returns
returns c =
    let message = term_form (named_in c.args.naming.now) c.args.message.now in
    list_item (word (codes "deflistener")) (message ∷ []) true c.begin_list.ensures (one_item false message c.put_term.ensures) c.push.ensures
