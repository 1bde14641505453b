use Rattle.std.specs.Prelude.{option_map}
use Rattle.std.proofs.Common.{rules, ◌≡◌, Some, None, sym, subst}
use Rattle.cp_lists.proofs.Collected.{if_mapped}
use Rattle.cp_model.specs.Skeleton.{Skeleton}
use Rattle.cp_model.proofs.CarriedParts.{not_both}
use Rattle.cp_normal.specs.Exact.{IsRefuted}
use Rattle.cp_normal.specs.Findings.{IsNormalised}
use Rattle.cp_normal.specs.NextSteps.{form_pairs}
use Rattle.cp_normal.proofs.Normalised.{contradictory}
use Rattle.cp_normal.proofs.normal.normal_pairs.Goals as goal

pub normal_pairs_among-requires : goal.normal_pairs_among-requires
normal_pairs_among-requires c = record { consistent = λ r. not_both c.if-is_refuted.false (c.is_refuted.ensures.1 r) }

pub returns-then-is_refuted : goal.returns-then-is_refuted
returns-then-is_refuted c = contradictory c.args.k.now (subst IsRefuted c.in_ok-listed.ensures (c.is_refuted.ensures.0 c.if-is_refuted.true))

pub returns-in-Some : goal.returns-in-Some
returns-in-Some c =
    let are = subst (λ (k : Skeleton). IsNormalised k (option_map (form_pairs k) (Some c.in-Some.pairs))) c.in_ok-listed.ensures (rw c.in-Some.is at c.in_ok-pairs.ensures) in
    if_mapped c.pairs_of.result c.map.result (λ all found same k.
    let told : found ≡ Some all = search rules in
    rw told (subst (λ ps. IsNormalised c.args.k.now (Some ps)) (sym same) are)) c.pairs_of.ensures c.map.ensures.cases

pub returns : goal.returns
returns c = subst (λ (k : Skeleton). IsNormalised k (option_map (form_pairs k) None)) c.in_ok-listed.ensures (rw c.in-None.is at c.in_ok-pairs.ensures)
