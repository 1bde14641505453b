use Rattle.std.proofs.Common.{List, subst, ◌∙◌}
use Rattle.cp_base.specs.Growing.{Grows, seen}
use Rattle.cp_model.specs.declared.node.Node.{Node}
use Rattle.cp_print.specs.Order.{pair_form, covered}
use Rattle.cp_print.proofs.order.add_from.Goals as goal

pub returns : goal.returns
returns c =
    subst (λ (es : List Node). Grows (seen pair_form c.args.pairs.now) (seen pair_form c.add_covered.new.pairs) (covered es c.args.x c.args.nodes.now)) (c.deref.ensures.value ∙ c.in_ok-ends.ensures) c.add_covered.ensures
