use Rattle.std.proofs.lemmas.List.{get_or_default}
use Rattle.std.proofs.lemmas.Result.{IfOk-weaker}
use Rattle.cp_print.proofs.CoveredForms.{covered_next, all_done}
use Rattle.cp_print.proofs.GrownForms.{made_more, made_all}
use Rattle.cp_print.proofs.order.covered.Goals as goal

pub loop-node-preserved : goal.loop-node-preserved
loop-node-preserved c =
    let l = c.loop-node in
    made_more l.pairs c.add_from.new.pairs _ _ _ _ c.in_ok-add_from.ensures (covered_next c.args.nodes.now l.node-index _ c.loop-node-test.true (get_or_default c.args.nodes.now l.node-index _ _ c.loop-node-test.true) c.args.covers.now c.args.nodes.now) l.invariant

pub returns : goal.returns
returns c =
    let l = c.loop-node in
    IfOk-weaker c.finish.result _ _ (λ v e. made_all l.pairs v.items _ _ l.invariant (all_done c.args.covers.now c.args.nodes.now c.args.nodes.now l.node-index c.loop-node-test.false) e) c.finish.ensures.ok
