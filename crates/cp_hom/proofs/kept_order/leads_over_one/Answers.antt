use Rattle.cp_lists.proofs.Members.{item_in}
use Rattle.cp_model.specs.Order.{over_pair, on_strand}
use Rattle.cp_hom.proofs.kept_order.leads_over_one.Goals as goal

pub returns-then-leads_over : goal.returns-then-leads_over
returns-then-leads_over c =
    let h = c.leads_over.ensures.0 c.if-leads_over.true in
    λ _. over_pair (item_in c.args.pairs.now c.loop-pair.pair-index _ c.loop-pair-test.true) h.0 (on_strand h.1)
