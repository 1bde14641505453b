use Rattle.std.proofs.Common.{rules, ◌↔◌, IsTrue, subst}
use Rattle.cp_lists.proofs.Collected.{if_mapped}
use Rattle.cp_model.specs.Skeleton.{Skeleton}
use Rattle.cp_normal.specs.Findings.{LosesOrigin}
use Rattle.cp_normal.proofs.origins.loses_origin.Goals as goal

pub returns : goal.returns
returns c =
    if_mapped c.of.result c.map.result (λ listed found same k.
    let told : IsTrue found ↔ LosesOrigin listed = search rules in
    subst (λ (l : Skeleton). IsTrue found ↔ LosesOrigin l) same told) c.of.ensures c.map.ensures.cases
