use Rattle.std.proofs.Common.{rules, map, ap, ◌∙◌}
use Rattle.std.proofs.lemmas.Result.{IfOk-weaker}
use Rattle.cp_lists.proofs.Collected.{collected_plain}
use Rattle.cp_general.specs.ListedPairs.{gathered}
use Rattle.cp_general.proofs.pairs.receptions.Goals as goal

pub returns : goal.returns
returns c =
    let gather = gathered c.args.sorted.now in
    IfOk-weaker c.try_collect.result _ _ (λ v e. e ∙ ap (map gather) (c.deref.ensures.value ∙ c.in_ok-nodes.ensures))
    (collected_plain gather c.deref.result.now c.try_collect.result (λ x y q k. search rules) c.try_collect.ensures.runs c.map.ensures.runs c.iter.ensures.runs c.iter.ensures.rest)
