use Rattle.std.proofs.Common.{List, ap, ◌∙◌}
use Rattle.cp_model.specs.declared.node.OrderPair.{OrderPair}
use Rattle.cp_order.specs.PredecessorNodes.{Target}
use Rattle.cp_skel.proofs.preceding.Preceding.of.Goals as goal

pub invariant_of-result : goal.invariant_of-result
invariant_of-result c = record {
  there = c.requires.there;
  along =
      c.in_ok-leading.ensures ∙ ap (λ (ps : List OrderPair). let t : Target = record { pairs = ps; node = c.args.node } in t) (c.pairs.ensures ∙ c.order.ensures);
}
