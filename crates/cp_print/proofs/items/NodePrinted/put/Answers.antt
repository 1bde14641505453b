use Rattle.std.proofs.Common.{[], ◌∷◌}
use Rattle.cp_language.specs.Report.{node_form}
use Rattle.cp_sexpr.specs.Pieces.{space}
use Rattle.cp_sexpr.specs.Spelling.{spelling}
use Rattle.cp_print.proofs.SpelledItems.{then}
use Rattle.cp_print.proofs.items.NodePrinted.put.Goals as goal

pub returns : goal.returns
returns c = then (space ∷ []) (spelling (node_form c.args.self.now)) c.push.ensures c.put_node.ensures
