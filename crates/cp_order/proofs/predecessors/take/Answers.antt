use Rattle.std.proofs.Common.{sym, ap, ◌∙◌}
use Rattle.cp_order.specs.PredecessorNodes.{tops_in, is_within}
use Rattle.cp_order.proofs.GatheredNodes.{takes_nothing}
use Rattle.cp_order.proofs.predecessors.take.Goals as goal

pub returns-then-is_within : goal.returns-then-is_within
returns-then-is_within c =
    takes_nothing c.args.pairs.now c.args.node (tops_in c.args.tops.now) c.args.work.now.items
    (ap (λ top. is_within top c.args.node.index) (sym c.top-top.ensures) ∙ sym c.is_within.ensures ∙ c.if-is_within.true)
