use Rattle.std.proofs.Common.{◌≤◌, ◌∙◌, sym, subst}
use Rattle.cp_collapse.specs.Collapses.{LiesOnOne, IsCollapsed, HasNoCycle}
use Rattle.cp_collapse.specs.Cycles.{ClosesCycleAt}
use Rattle.cp_collapse.specs.Property.{Has}
use Rattle.cp_collapse.proofs.Collected.{all_forward, backward_impossible, cycle_impossible, no_cycle_left}
use Rattle.cp_collapse.specs.MergedParts.{parts_view, with_listed}
use Rattle.cp_collapse.proofs.SoundSkeletons.{merged_sound}
use Rattle.cp_model.proofs.CarriedParts.{not_both}
use Rattle.cp_collapse.proofs.merged_skeletons.collapse.Goals as goal

pub returns-then-some_lies_backward : goal.returns-then-some_lies_backward
returns-then-some_lies_backward c =
    let p = c.args.partial.now.lowest.items in
    backward_impossible c.args.k.now p c.is_sound.ensures.skeleton.order_pairs
    (subst (Has (λ q. LiesOnOne p q × (q.later.index ≤ q.earlier.index))) (c.pairs.ensures ∙ c.order.ensures)
    (subst (λ xs. Has (λ q. LiesOnOne xs q × (q.later.index ≤ q.earlier.index)) c.pairs.result.now) c.deref.ensures.value (c.some_lies_backward.ensures.0 c.if-some_lies_backward.true)))

pub merged-requires-clause-forward : goal.merged-requires-clause-forward
merged-requires-clause-forward c =
    let p = c.args.partial.now.lowest.items in
    all_forward c.args.k.now p (λ h. not_both c.if-some_lies_backward.false (c.some_lies_backward.ensures.1
    (subst (λ xs. Has (λ q. LiesOnOne xs q × (q.later.index ≤ q.earlier.index)) c.pairs.result.now) (sym c.deref.ensures.value)
    (subst (Has (λ q. LiesOnOne p q × (q.later.index ≤ q.earlier.index))) (sym (c.pairs.ensures ∙ c.order.ensures)) h))))

pub returns-then-branch : goal.returns-then-branch
returns-then-branch c =
    cycle_impossible c.args.k.now (with_listed (parts_view c.args.k.now.variables c.in_ok-parts.parts)) c.args.partial.now.lowest.items c.is_sound.ensures.skeleton.order_pairs c.in_ok-parts.ensures
    (subst (λ qs. Has (λ q. ClosesCycleAt qs q.earlier) qs) c.deref-2.ensures.value (c.in_ok-some_closes.ensures.0 c.if-branch.true))

pub of_parts-requires : goal.of_parts-requires
of_parts-requires c =
    merged_sound c.args.k.now (parts_view c.args.k.now.variables c.in_ok-parts.parts) c.args.partial.now.lowest.items c.is_sound.ensures c.in_ok-parts.ensures
    (no_cycle_left (with_listed (parts_view c.args.k.now.variables c.in_ok-parts.parts)) (λ h. not_both c.if-branch.false (c.in_ok-some_closes.ensures.1
    (subst (λ qs. Has (λ q. ClosesCycleAt qs q.earlier) qs) (sym c.deref-2.ensures.value) h))))

pub returns : goal.returns
returns c =
    let same = c.in_ok-of_parts.ensures.skeleton in (
      subst (IsCollapsed c.args.k.now c.args.partial.now.lowest.items) (sym same) c.in_ok-parts.ensures,
      subst HasNoCycle (sym same)
          (no_cycle_left (with_listed (parts_view c.args.k.now.variables c.in_ok-parts.parts)) (λ h. not_both c.if-branch.false (c.in_ok-some_closes.ensures.1
          (subst (λ qs. Has (λ q. ClosesCycleAt qs q.earlier) qs) (sym c.deref-2.ensures.value) h)))),
      c.in_ok-of_parts.ensures.variables,
    )
