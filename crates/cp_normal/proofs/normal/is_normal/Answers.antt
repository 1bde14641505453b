use Rattle.std.proofs.Common.{List, ◌↔◌, sym, subst, ◌∙◌}
use Rattle.std.proofs.lemmas.Result.{IfOk-weaker}
use Rattle.cp_lists.specs.Lists.{IsIn}
use Rattle.cp_model.specs.Skeleton.{Skeleton}
use Rattle.cp_model.specs.declared.node.OrderPair.{OrderPair}
use Rattle.cp_model.proofs.CarriedParts.{not_both}
use Rattle.cp_normal.specs.Branches.{IsSettled}
use Rattle.cp_normal.specs.Exact.{IsRefuted}
use Rattle.cp_normal.specs.Findings.{IsAddedPair}
use Rattle.cp_normal.proofs.NormalSkeletons.{refuted_not_normal, misplaced_not_normal, normal_if}
use Rattle.cp_normal.proofs.normal.is_normal.Goals as goal

pub returns-then-is_refuted : goal.returns-then-is_refuted
returns-then-is_refuted c = refuted_not_normal c.args.k.now (subst IsRefuted c.in_ok-listed.ensures (c.is_refuted.ensures.0 c.if-is_refuted.true))

pub returns-then-some_is_misplaced : goal.returns-then-some_is_misplaced
returns-then-some_is_misplaced c = misplaced_not_normal c.args.k.now (subst (λ (k : Skeleton). IsSettled k → ⊥) c.in_ok-listed.ensures (c.some_is_misplaced.ensures.some c.if-some_is_misplaced.true))

pub returns : goal.returns
returns c =
    let k = c.args.k.now in
    let added =
    subst (λ (ps : List OrderPair). (p : OrderPair) → IsIn p ps ↔ IsAddedPair k p) (sym c.deref.ensures.value)
    (subst (λ (k : Skeleton). (p : OrderPair) → IsIn p c.in_ok-added.added.items ↔ IsAddedPair k p) c.in_ok-listed.ensures c.in_ok-added.ensures) in
    IfOk-weaker c.all_lead.result _ _
    (λ all h. normal_if k _ _ all c.is_sound.ensures (c.pairs.ensures ∙ c.order.ensures) (λ r. not_both c.if-is_refuted.false (c.is_refuted.ensures.1 (subst IsRefuted (sym c.in_ok-listed.ensures) r))) (subst IsSettled c.in_ok-listed.ensures (c.some_is_misplaced.ensures.none c.if-some_is_misplaced.false)) added h)
    c.all_lead.ensures
