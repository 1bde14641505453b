use Rattle.std.proofs.Common.{false, [], ◌∷◌}
use Rattle.cp_language.specs.Report.{node_form}
use Rattle.cp_sexpr.specs.Pieces.{space, open_parenthesis}
use Rattle.cp_sexpr.specs.Spelling.{spelling}
use Rattle.cp_print.proofs.SpelledItems.{then, one_item, list_item}
use Rattle.cp_print.proofs.order.OrderPairPrinted.put.Goals as goal

pub returns : goal.returns
returns c =
    let p = c.args.self.now in
    let earlier = node_form p.earlier in
    let later = node_form p.later in
    list_item earlier (later ∷ []) false (then (space ∷ open_parenthesis ∷ []) (spelling earlier) c.append.ensures c.put_node.ensures) (one_item false later c.put.ensures) c.push.ensures
