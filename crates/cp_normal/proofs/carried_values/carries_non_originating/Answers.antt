use Rattle.std.proofs.Common.{rules, ◌↔◌, IsTrue, subst}
use Rattle.cp_lists.proofs.Collected.{if_mapped}
use Rattle.cp_model.specs.Skeleton.{Skeleton}
use Rattle.cp_normal.specs.Findings.{CarriesNonOriginating}
use Rattle.cp_normal.proofs.carried_values.carries_non_originating.Goals as goal

pub returns : goal.returns
returns c =
    if_mapped c.of.result c.map.result (λ listed found same k.
    let told : IsTrue found ↔ CarriesNonOriginating listed = search rules in
    subst (λ (l : Skeleton). IsTrue found ↔ CarriesNonOriginating l) same told) c.of.ensures c.map.ensures.cases
