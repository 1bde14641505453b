use Rattle.std.proofs.Common.{◌≡◌, sym, arith, ap, inr, subst, ◌∙◌}
use Rattle.cp_lists.proofs.Appended.{none_counted}
use Rattle.cp_model.specs.Skeleton.{Assumptions, Skeleton}
use Rattle.cp_model.proofs.CarriedParts.{not_both}
use Rattle.cp_skel.specs.Sound.{IsSound}
use Rattle.cp_normal.proofs.Normalised.{cycle_if_found, found_if_cycle, consistent, own_close_none}
use Rattle.cp_normal.proofs.OwnPairs.{normal_joined, own_alone}
use Rattle.cp_normal.proofs.normal.normal_pairs_among.Goals as goal

pub returns-then-is_empty : goal.returns-then-is_empty
returns-then-is_empty c =
    let k = c.args.k.now in
    let sound : IsSound k = subst IsSound c.skeleton-skeleton.ensures c.is_sound.ensures in
    let l = c.in_ok-added.added.ok.0 in
    let none = none_counted c.in_ok-added.added.items c.in_ok-added.added.len (omega (arith, l)) (sym c.is_empty.ensures ∙ c.if-is_empty.true) in
    let own = own_alone k c.in_ok-added.added.items c.in_ok-added.ensures none in
    (own, consistent k c.requires.consistent (own_close_none k own sound.skeleton.no_cycle))

pub returns-then-branch : goal.returns-then-branch
returns-then-branch c =
    let k = c.args.k.now in
    let own : c.assumptions.result.now.uniquely_originating ≡ k.assumptions.uniquely_originating =
    ap (λ (a : Assumptions). a.uniquely_originating) (c.assumptions.ensures ∙ ap (λ (l : Skeleton). l.assumptions) c.skeleton-skeleton.ensures) in
    let sound : IsSound k = subst IsSound c.skeleton-skeleton.ensures c.is_sound.ensures in
    let same = c.pairs.ensures ∙ c.order.ensures ∙ ap (λ (l : Skeleton). l.pairs) c.skeleton-skeleton.ensures in
    let normal = normal_joined k c.pairs.result.now c.deref.result.now c.in_ok-added.added.items c.in_ok-pairs.pairs.items same c.deref.ensures.value c.in_ok-pairs.ensures c.in_ok-added.ensures in
    inr (inr (inr (cycle_if_found k c.in_ok-pairs.pairs.items _ _ _ normal c.deref-2.ensures.value own c.uniquely_originating.ensures sound.skeleton.order_pairs sound.skeleton.no_cycle sound.skeleton.origins
    (c.in_ok-some_is_closed.ensures.0 c.if-branch.true))))

pub returns : goal.returns
returns c =
    let k = c.args.k.now in
    let own : c.assumptions.result.now.uniquely_originating ≡ k.assumptions.uniquely_originating =
    ap (λ (a : Assumptions). a.uniquely_originating) (c.assumptions.ensures ∙ ap (λ (l : Skeleton). l.assumptions) c.skeleton-skeleton.ensures) in
    let sound : IsSound k = subst IsSound c.skeleton-skeleton.ensures c.is_sound.ensures in
    let same = c.pairs.ensures ∙ c.order.ensures ∙ ap (λ (l : Skeleton). l.pairs) c.skeleton-skeleton.ensures in
    let normal = normal_joined k c.pairs.result.now c.deref.result.now c.in_ok-added.added.items c.in_ok-pairs.pairs.items same c.deref.ensures.value c.in_ok-pairs.ensures c.in_ok-added.ensures in (
      normal,
      consistent k c.requires.consistent
          (λ cycle. not_both c.if-branch.false
          (c.in_ok-some_is_closed.ensures.1
          (found_if_cycle k c.in_ok-pairs.pairs.items _ _ _ normal c.deref-2.ensures.value own c.uniquely_originating.ensures sound.skeleton.order_pairs sound.skeleton.no_cycle sound.skeleton.origins cycle))),
    )
