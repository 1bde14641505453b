use Rattle.std.proofs.Common.{false, [], ◌∷◌, ap}
use Rattle.cp_language.specs.Names.{sort_text}
use Rattle.cp_language.specs.Printed.{word}
use Rattle.cp_sexpr.specs.Pieces.{space, open_parenthesis}
use Rattle.cp_print.specs.Spelled.{item_text}
use Rattle.cp_print.proofs.SpelledItems.{then, one_item, same_text, list_item}
use Rattle.cp_print.proofs.strands.put_var.Goals as goal

pub returns : goal.returns
returns c =
    let name = c.args.name.now in
    let sort = word (sort_text c.args.sort) in
    list_item (word name) (sort ∷ []) false (then (space ∷ open_parenthesis ∷ []) name c.append.ensures (same_text c.as_bytes.ensures.value c.append-2.ensures))
    (one_item false sort (same_text (ap (λ t. item_text false (word t)) c.sort_text.ensures) c.put_word.ensures)) c.push.ensures
