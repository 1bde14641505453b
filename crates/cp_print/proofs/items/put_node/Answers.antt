use Rattle.std.proofs.Common.{false, [], ◌∷◌, decimal}
use Rattle.cp_language.specs.Printed.{numeral}
use Rattle.cp_sexpr.specs.Pieces.{open_parenthesis}
use Rattle.cp_print.proofs.SpelledItems.{then, one_item, whole_list}
use Rattle.cp_print.proofs.items.put_node.Goals as goal

pub returns : goal.returns
returns c =
    let n = c.args.node in
    let index = numeral n.index in
    whole_list (numeral n.strand) (index ∷ []) (then (open_parenthesis ∷ []) (decimal n.strand) c.push.ensures c.put_number.ensures) (one_item false index c.put_numeral.ensures) c.push-2.ensures
