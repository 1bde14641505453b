use Rattle.std.proofs.Common.{rules, tests}
use Rattle.std.proofs.lemmas.Iterator.{YieldsList-from_slice}
use Rattle.std.proofs.lemmas.Iterator.Search.{any_from_yields_List}
use Rattle.cp_model.specs.Same.{same_node}
use Rattle.cp_model.specs.declared.node.Node.{Node}
use Rattle.cp_print.proofs.order.has_node.Goals as goal

pub returns : goal.returns
returns c = any_from_yields_List (λ (z : Node). same_node z c.args.node) _ _ _ c.any.ensures.ran (YieldsList-from_slice c.args.ends.now cc) (λ x b q k. search (rules, tests))
