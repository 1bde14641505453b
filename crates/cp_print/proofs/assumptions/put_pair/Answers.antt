use Rattle.std.proofs.Common.{false, [], ◌∷◌}
use Rattle.cp_language.specs.Printed.{word, term_form}
use Rattle.cp_sexpr.specs.Pieces.{space, open_parenthesis}
use Rattle.cp_print.specs.Named.{named_in}
use Rattle.cp_print.proofs.SpelledItems.{then, one_item, same_text, list_item}
use Rattle.cp_print.proofs.assumptions.put_pair.Goals as goal

pub returns : goal.returns
returns c =
    let name = c.args.name.now in
    let value = term_form (named_in c.args.naming.now) c.args.value.now in
    list_item (word name) (value ∷ []) false (then (space ∷ open_parenthesis ∷ []) name c.append.ensures (same_text c.as_bytes.ensures.value c.append-2.ensures)) (one_item false value c.put_term.ensures) c.push.ensures
