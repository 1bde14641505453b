use Rattle.std.proofs.Common.{refl}
use Rattle.std.proofs.lemmas.List.{drop_all, get_or_default}
use Rattle.cp_lists.proofs.Members.{drop_read}
use Rattle.cp_lists.proofs.Items.{item_of_read}
use Rattle.cp_model.proofs.CarriedParts.{not_both}
use Rattle.cp_hom.specs.Maps.{map_view}
use Rattle.cp_hom.specs.Counterparts.{IsKeptBy}
use Rattle.cp_hom.proofs.Counterparts.{kept_by, by_kept}
use Rattle.cp_fingerprint.proofs.Listed.{each_next, each_lost, each_done}
use Rattle.cp_hom.proofs.kept_order.keeps_pairs.Goals as goal

pub returns-then-not-branch : goal.returns-then-not-branch
returns-then-not-branch c = (
  λ r. absurd (not_both refl r),
  λ all. absurd (each_lost (IsKeptBy c.args.others.now (map_view c.args.mapping.now)) c.args.pairs.now c.loop-pair.pair-index _
      (item_of_read c.args.pairs.now c.loop-pair.pair-index _ c.loop-pair-test.true (get_or_default c.args.pairs.now c.loop-pair.pair-index _ _ c.loop-pair-test.true))
      (λ kept. not_both c.if-not-branch.true (c.in_ok-leads_to_another.ensures.1 (by_kept c.args.others.now (map_view c.args.mapping.now) _ _ _ c.node-x.ensures c.node-y.ensures kept)))
      all),
)

pub loop-pair-preserved : goal.loop-pair-preserved
loop-pair-preserved c =
    λ rest. each_next (IsKeptBy c.args.others.now (map_view c.args.mapping.now)) c.args.pairs.now _ _ _
    (drop_read c.args.pairs.now c.loop-pair.pair-index _ c.loop-pair-test.true (get_or_default c.args.pairs.now c.loop-pair.pair-index _ _ c.loop-pair-test.true))
    (kept_by c.args.others.now (map_view c.args.mapping.now) _ _ _ c.node-x.ensures c.node-y.ensures (c.in_ok-leads_to_another.ensures.0 c.if-not-branch.false))
    c.loop-pair.invariant rest

pub returns : goal.returns
returns c = (
  λ _. each_done (IsKeptBy c.args.others.now (map_view c.args.mapping.now)) c.args.pairs.now _ (drop_all c.loop-pair.pair-index c.args.pairs.now c.loop-pair-test.false) c.loop-pair.invariant,
  λ _. refl,
)
