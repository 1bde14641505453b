use Rattle.std.proofs.Common.{ap, ◌∙◌}
use Rattle.std.proofs.lemmas.Result.{IfOk-weaker}
use Rattle.cp_model.specs.Skeleton.{Skeleton}
use Rattle.cp_normal.proofs.OwnPairs.{normal_of_both}
use Rattle.cp_normal.proofs.normal.new_pairs.Goals as goal

pub returns : goal.returns
returns c =
    let own = c.pairs.ensures ∙ c.order.ensures ∙ ap (λ (k : Skeleton). k.pairs) c.skeleton.ensures in
    IfOk-weaker c.others.result _ _ (λ more is. normal_of_both c.args.k.now c.in_ok-added.added.items c.in_ok-added.ensures c.pairs.result.now more.items own is) c.others.ensures
