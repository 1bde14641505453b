use Rattle.std.proofs.Common.{rules, List, map, ap, ◌∙◌}
use Rattle.std.proofs.lemmas.Result.{IfOk-weaker}
use Rattle.cp_lists.proofs.Collected.{collected_plain}
use Rattle.cp_model.specs.declared.node.OrderPair.{OrderPair}
use Rattle.cp_print.specs.Order.{entry_of}
use Rattle.cp_print.proofs.order.entries.Goals as goal

pub returns : goal.returns
returns c =
    let shared = c.args.shared.now in
    IfOk-weaker c.try_collect.result _ _ (λ v e. e ∙ ap (λ (ps : List OrderPair). map (entry_of ps) shared) c.in_ok-sorted.ensures)
    (collected_plain (entry_of c.in_ok-sorted.sorted) shared c.try_collect.result (λ x y q k. search rules) c.try_collect.ensures.runs c.map.ensures.runs c.iter.ensures.runs c.iter.ensures.rest)
